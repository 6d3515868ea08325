-- The seconds in turn: all are left, one is taken or refused, none is left.
use Rattle.std.proofs.Common.{refl, length-drop, arith}
use Rattle.std.proofs.lemmas.Result.{err_from_is_err_and}
use Rattle.report.proofs.Seconds.{all_left, from_next, one_less, one_refused, none_left}
use Rattle.report.proofs.run.Kept.run_seconds.Goals as goal

pub loop-second-init : goal.loop-second-init
loop-second-init c = all_left c.requires.0 c.requires.1

pub loop-second-preserved : goal.loop-second-preserved
loop-second-preserved c =
    one_less c.loop-second.invariant (from_next _ _ c.loop-second-test.true) c.in_ok-run_second.ensures refl

pub returns-in_err-run_second : goal.returns-in_err-run_second
returns-in_err-run_second c =
    let p = err_from_is_err_and c.from_residual.result c.from_residual.ensures.1 in
    rw (p.1, p.2) (one_refused c.loop-second.invariant (from_next _ _ c.loop-second-test.true) c.in_err-run_second.ensures refl)

pub returns : goal.returns
returns c = none_left c.loop-second.invariant (omega (arith, length-drop c.loop-second.second-index c.args.seconds.now, c.loop-second-test.false))
