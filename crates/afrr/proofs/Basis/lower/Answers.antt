-- A lower limit is the mirror of an upper one.
use Rattle.std.proofs.Common.{◌*◌, w64}
use Rattle.numbers.proofs.Fit.{fits_by, within_neg, within_le}
use Rattle.power.specs.Units.{most_per_kw}
use Rattle.afrr.specs.State.{most_limit}
use Rattle.afrr.proofs.Parts.{bound_most}
use Rattle.afrr.proofs.Edges.{mirrored, lower_mirror, upper_within}
use Rattle.afrr.proofs.Basis.lower.Goals as goal

pub negated-requires-4 : goal.negated-requires-4
negated-requires-4 c =
    let m = mirrored _ _ _ _ _ _ c.requires in
    rw (c.upper.ensures, c.negated.ensures, c.negated-2.ensures, c.negated-3.ensures)
    (fits_by w64 _ (within_neg _ _ (within_le (most_limit * most_per_kw) _ _ (bound_most most_limit _ _ c.args.self.per.divides (upper_within _ _ _ _ _ _ m)) tt)))

pub returns : goal.returns
returns c =
    let b = c.args.self in
    cc (lower_mirror b.per.grains c.args.least.0 c.args.last.0 b.gradient.0 b.setpoint.0 b.floor.0)
