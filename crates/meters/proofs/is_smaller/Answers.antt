-- By the law of either test, so that an edit of definition and code alike fails at the claim.
use Rattle.std.proofs.lemmas.Float.{T_from_true}
use Rattle.meters.specs.Meters.{smaller}
use Rattle.meters.proofs.Compare.{lt_is, le_is}
use Rattle.meters.proofs.is_smaller.Goals as goal

pub returns : goal.returns
unfolding smaller
returns c = search (lt_is, le_is, T_from_true _ c.well_formed.0.1, T_from_true _ c.well_formed.1.0.1)
