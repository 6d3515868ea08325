-- The places before this one are a second later, the others as they were.
use Rattle.std.proofs.Common.{◌≡◌, ◌++◌, map, take, drop}
use Rattle.mfrr.specs.State.{older}
use Rattle.mfrr.proofs.leftovers.all_later.Given as goal

abbrev pub invariant-loop-x : goal.invariant-loop-x
invariant-loop-x l = take l.x-index l.places ++ map older (drop l.x-index l.places) ≡ map older l.fn.places
