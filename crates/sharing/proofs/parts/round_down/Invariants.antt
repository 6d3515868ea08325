use Rattle.sharing.proofs.Down.{Walked}
use Rattle.sharing.proofs.parts.round_down.Given as goal

abbrev pub invariant-loop-i : goal.invariant-loop-i
invariant-loop-i l = Walked l.error l.total l.tolerances l.parts l.missing l.i
