-- What standard error says of a run that ends before its input does.
use Rattle.std.specs.Prelude.{ℕ, List, codes}
use Rattle.sending.specs.declared.Failure.{Failure}
use Rattle.sending.specs.declared.Failure.TheVariants.{Input, Output, ReaderGone}

abbrev pub failure_text : Failure → List ℕ
failure_text Input = codes "the input could not be read"
failure_text Output = codes "the output could not be written"
failure_text ReaderGone = codes "nobody reads the output"
