-- A past with no second holds zeros.
use Rattle.std.proofs.Common.{[], refl}
use Rattle.power.specs.Past.{newest}
use Rattle.power.proofs.Past.{ranged_none}
use Rattle.fcr.specs.State.{state_of}
use Rattle.fcr.proofs.Steps.{state_ready}
use Rattle.fcr.proofs.FcrState.new.Goals as goal

pub returns : goal.returns
unfolding state_of newest
returns c = (refl, state_ready [] ranged_none)
