-- The code's steps are those of the definition.
use Rattle.afrr.specs.Band.{gradient_by}
use Rattle.afrr.proofs.gradient_of.Goals as goal

pub returns : goal.returns
unfolding gradient_by
returns c = rw (c.spread_over.ensures, c.in_grains.ensures, c.larger-most.ensures, c.minus.ensures, c.per_kw.ensures)
