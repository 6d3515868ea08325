-- Turn after turn, and the end.
use Rattle.std.proofs.lemmas.Result.{on_ok_weaker}
use Rattle.sending.proofs.SoFar.{begin, onward, whole, beyond}
use Rattle.sending.proofs.run.Goals as goal

pub loop-init : goal.loop-init
loop-init g c = begin _ _ _

pub loop-preserved : goal.loop-preserved
loop-preserved g c = onward c.loop.invariant (c.in_ok-turn.ensures.went c.if-not-branch.false)

pub returns-then-not-branch : goal.returns-then-not-branch
returns-then-not-branch g c =
    on_ok_weaker c.finish.result (whole c.loop.invariant (g.W.Write.contents c.finish.new.output) (c.in_ok-turn.ensures.ended c.if-not-branch.true)) c.finish.ensures

pub returns : goal.returns
returns g c = beyond c.loop.invariant c.loop-test.false
