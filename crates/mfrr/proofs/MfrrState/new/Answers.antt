-- The state of an empty past under every sheet.
use Rattle.std.proofs.Common.{sym, subst}
use Rattle.mfrr.specs.State.{Ready}
use Rattle.mfrr.proofs.Ready.{fresh, fresh_is}
use Rattle.mfrr.proofs.MfrrState.new.Goals as goal

pub returns : goal.returns
returns c = rw c.point.ensures (record { is = λ sh. sym (fresh_is sh); ready = λ sh. subst (Ready sh) (fresh_is sh) (fresh sh) })
