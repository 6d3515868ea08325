-- The machine's tests are the definition's.
use Rattle.std.proofs.Common.{sym, ◌∙◌}
use Rattle.std.proofs.lemmas.Float.{T_from_true}
use Rattle.meters.proofs.Ranges.{accuracy_is}
use Rattle.meters.proofs.is_fair_accuracy.Goals as goal

pub returns-then-is_finite : goal.returns-then-is_finite
returns-then-is_finite c = rw (accuracy_is c.args.a (T_from_true _ c.well_formed.0.1), sym c.is_finite.ensures.value ∙ c.if-is_finite.true)

pub returns-else-is_finite : goal.returns-else-is_finite
returns-else-is_finite c = c.if-is_finite.false ∙ rw (accuracy_is c.args.a (T_from_true _ c.well_formed.0.1), sym c.is_finite.ensures.value ∙ c.if-is_finite.false)
