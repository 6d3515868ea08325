-- The sum so far and the terms of the bytes that are left make the check; each term is at most 508 times 255.
use Rattle.std.proofs.Common.{◌≡◌, ◌+◌, ◌*◌, ◌≤◌, drop}
use Rattle.block.specs.Places.{check_at}
use Rattle.block.specs.Check.{weights, check_of}
use Rattle.block.proofs.bytes.check_of.Given as goal

abbrev pub invariant-loop-i : goal.invariant-loop-i
invariant-loop-i l =
    record {
      most : l.sum ≤ 1 + (check_at * 255) * l.i;
      left : l.sum + weights l.i (drop l.i l.b-items) ≡ check_of l.s;
    }
