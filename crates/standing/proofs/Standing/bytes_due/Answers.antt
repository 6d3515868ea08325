-- A block that is due has a number up to the last one's.
use Rattle.std.proofs.Common.{arith}
use Rattle.standing.specs.Stood.{stood}
use Rattle.standing.proofs.Steps.{due_next}
use Rattle.standing.proofs.Standing.bytes_due.Goals as goal

pub overflow_sub-left : goal.overflow_sub-left
overflow_sub-left c = omega (arith, (due_next (stood c.args.self.now) c.requires).1, c.last_block.ensures.0)
