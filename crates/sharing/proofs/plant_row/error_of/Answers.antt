-- The error, and its size, by those of its three steps.
use Rattle.std.proofs.Common.{◌*◌, refl}
use Rattle.numbers.proofs.Fit.{fit}
use Rattle.sharing.specs.Sizes.{most_shared}
use Rattle.sharing.proofs.Sizes.{error_within}
use Rattle.sharing.proofs.plant_row.error_of.Goals as goal

pub less_setpoint-requires : goal.less_setpoint-requires
less_setpoint-requires c =
    let a = c.args in
    let h = error_within (2 * most_shared) a.due.0 a.kinds.fcr a.kinds.afrr a.kinds.mfrr c.requires.0 c.requires.1 in
    rw (c.less_setpoint-past_afrr.ensures, c.less_setpoint-past_fcr.ensures) (search fit)

pub returns : goal.returns
returns c =
    let h = error_within (2 * most_shared) _ _ _ _ c.requires.0 c.requires.1 in
    rw (c.less_setpoint.ensures, c.less_setpoint-past_afrr.ensures, c.less_setpoint-past_fcr.ensures) (refl, h)
