-- The machine's tests are the definition's.
use Rattle.std.proofs.Common.{◌∙◌, refl}
use Rattle.std.proofs.lemmas.Float.{T_from_true}
use Rattle.numbers.proofs.Test.{and_first, and_second}
use Rattle.meters.proofs.Ranges.{deviation_is}
use Rattle.meters.proofs.is_deviation.Goals as goal

pub returns-then-d : goal.returns-then-d
returns-then-d c = and_second _ _ _ c.if-d.true refl ∙ deviation_is c.args.d (T_from_true _ c.well_formed.0.1)

pub returns-else-d : goal.returns-else-d
returns-else-d c = and_first _ _ _ refl c.if-d.false ∙ deviation_is c.args.d (T_from_true _ c.well_formed.0.1)
