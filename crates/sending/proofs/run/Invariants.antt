-- What was sent is what is printed of what was read.
use Rattle.sending.proofs.SoFar.{SoFar}
use Rattle.sending.proofs.run.Given as goal

abbrev pub invariant-loop : goal.invariant-loop
invariant-loop g l =
    SoFar (g.S.Session.rest l.initial.session) (g.S.Session.rest l.session) (g.R.Read.remaining l.initial.input) (g.R.Read.remaining l.input) (g.W.Write.contents l.initial.output) (g.W.Write.contents l.output) l.counter
