-- What holds of what a kind on gives holds of the kind, on or off. Assumes nothing.
use Rattle.std.proofs.Common.{Bool, true, false, IfSome}
use Rattle.power.specs.declared.kilowatts.Kw.{Kw}
use Rattle.power.specs.declared.limits.Band.{Band}
use Rattle.power.specs.declared.limits.BandedSetpoint.{BandedSetpoint}
use Rattle.sharing.specs.Rows.{kind_if}

pub if_on : (P : BandedSetpoint → Type 0) (on : Bool) (s : Kw) (b : Band) → P (record { setpoint = s; band = b }) → IfSome (kind_if on s b) P
unfolding kind_if
if_on P true s b p = p
if_on P false s b p = tt
