-- The machine's tests are the definition's.
use Rattle.std.proofs.Common.{◌∙◌, refl}
use Rattle.std.proofs.lemmas.Float.{T_from_true}
use Rattle.numbers.proofs.Test.{and_first, and_second}
use Rattle.meters.proofs.Ranges.{frequency_is}
use Rattle.meters.proofs.is_frequency.Goals as goal

pub returns-then-f : goal.returns-then-f
returns-then-f c = and_second _ _ _ c.if-f.true refl ∙ frequency_is c.args.f (T_from_true _ c.well_formed.0.1)

pub returns-else-f : goal.returns-else-f
returns-else-f c = and_first _ _ _ refl c.if-f.false ∙ frequency_is c.args.f (T_from_true _ c.well_formed.0.1)
