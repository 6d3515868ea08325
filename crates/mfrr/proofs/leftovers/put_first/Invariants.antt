-- The places before this one are done, and the moving leftover is yet to be put in front of the others.
use Rattle.std.proofs.Common.{◌≡◌, ◌++◌, take, drop}
use Rattle.mfrr.specs.State.{is_free, put}
use Rattle.mfrr.proofs.leftovers.put_first.Given as goal

abbrev pub invariant-loop-place : goal.invariant-loop-place
invariant-loop-place l =
    take l.place-index l.places ++ put is_free l.moving (drop l.place-index l.places) ≡ put is_free l.fn.x l.fn.places
