-- The next byte is below 251.
use Rattle.std.proofs.Common.{◌<◌}
use Rattle.check_operations.proofs.writers.fill.Given as goal

abbrev pub invariant-loop-byte : goal.invariant-loop-byte
invariant-loop-byte l = l.next < 251
