-- The count so far and that of the rest make up the whole.
use Rattle.std.proofs.Common.{◌+◌, ◌≡◌, ◌≤◌, drop}
use Rattle.sharing.specs.Shares.{larger, remainders_in}
use Rattle.sharing.proofs.parts.larger_in.Given as goal

abbrev pub invariant-loop-part : goal.invariant-loop-part
invariant-loop-part l =
    (l.count + larger l.remainder (remainders_in (drop l.part-index l.parts)) ≡ larger l.remainder (remainders_in l.parts))
    × (l.count ≤ l.part-index)
