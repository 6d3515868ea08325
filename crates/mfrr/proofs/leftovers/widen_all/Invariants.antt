-- The limits so far, wider by those of the places that are left, are what is asked for.
use Rattle.std.proofs.Common.{◌≡◌, drop}
use Rattle.mfrr.specs.Limits.{span_all}
use Rattle.mfrr.specs.State.{counting_in}
use Rattle.mfrr.proofs.leftovers.widen_all.Given as goal

abbrev pub invariant-loop-x : goal.invariant-loop-x
invariant-loop-x l = span_all l.all (counting_in (drop l.x-index l.places)) ≡ span_all l.fn.limits (counting_in l.places)
