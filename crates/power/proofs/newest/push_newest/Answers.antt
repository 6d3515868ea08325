-- The oldest comes to the front, where `s` takes its place.
use Rattle.std.proofs.Common.{◌-◌, length, arith}
use Rattle.power.proofs.Shift.{turned}
use Rattle.power.proofs.newest.push_newest.Goals as goal

pub returns : goal.returns
returns c = rw c.rotate_right.ensures.after (turned c.args.past.now (length c.args.past.now - 1) c.args.s c.args.s (omega arith))
