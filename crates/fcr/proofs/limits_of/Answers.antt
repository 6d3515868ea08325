-- The limits fit, whatever the sheet.
use Rattle.fcr.proofs.Bound.{plus_fits, minus_fits}
use Rattle.fcr.proofs.limits_of.Goals as goal

pub minus-requires : goal.minus-requires
minus-requires c =
    rw (c.in_grains-base.ensures, c.tolerance.ensures, c.per_kw.ensures) (minus_fits _ c.args.sheet.in_range _ _ c.requires.0 _ c.requires.2)

pub plus-requires : goal.plus-requires
plus-requires c =
    rw (c.in_grains-base.ensures, c.tolerance-2.ensures, c.per_kw.ensures) (plus_fits _ c.args.sheet.in_range _ _ c.requires.0 _ c.requires.1)
