-- The sum so far and that of the rest make up the whole.
use Rattle.std.proofs.Common.{◌+◌, ◌≡◌, drop}
use Rattle.sharing.specs.Shares.{sum_of}
use Rattle.sharing.proofs.parts.total.Given as goal

abbrev pub invariant-loop-tolerance : goal.invariant-loop-tolerance
invariant-loop-tolerance l = l.sum + sum_of (drop l.tolerance-index l.tolerances) ≡ sum_of l.tolerances
