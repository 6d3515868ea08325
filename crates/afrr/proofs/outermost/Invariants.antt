-- The outermost of all is that found so far, carried on over the rest.
use Rattle.std.proofs.Common.{◌≡◌, ℤ, drop}
use Rattle.afrr.specs.Band.{over_from, over}
use Rattle.afrr.specs.State.{Is}
use Rattle.afrr.proofs.outermost.Given as goal

abbrev pub invariant-loop-k : goal.invariant-loop-k
invariant-loop-k g l =
    (op : ℤ → ℤ → ℤ) → Is op (goal.F-post g l.outer) → over op l.setpoints ≡ over_from op l.m.0 (drop l.k-index l.k-items)
