-- The seconds in turn: all are left, one is taken or refused, none is left.
use Rattle.std.proofs.Common.{refl, length-drop, arith}
use Rattle.std.proofs.lemmas.Result.{err_from_is_err_and}
use Rattle.report.proofs.Seconds.{from_next}
use Rattle.cut_run.proofs.Through.{all_left, one_less, one_refused, none_left}
use Rattle.cut_run.proofs.Cut.seconds.Goals as goal

pub loop-second-init : goal.loop-second-init
loop-second-init c = all_left c.requires.0 c.requires.1

pub loop-second-preserved : goal.loop-second-preserved
loop-second-preserved c =
    one_less c.loop-second.invariant (from_next _ _ c.loop-second-test.true) c.in_ok-second.ensures refl

pub returns-in_err-second : goal.returns-in_err-second
returns-in_err-second c =
    let p = err_from_is_err_and c.from_residual.result c.from_residual.ensures.1 in
    rw (p.1, p.2) (one_refused c.loop-second.invariant (from_next _ _ c.loop-second-test.true) c.in_err-second.ensures refl)

pub returns : goal.returns
returns c = none_left c.loop-second.invariant (omega (arith, length-drop c.loop-second.second-index c.args.seconds.now, c.loop-second-test.false))
