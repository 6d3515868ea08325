-- The digits, which are ten at most.
use Rattle.std.proofs.Common.{arith}
use Rattle.codec.proofs.Lents.{loosen}
use Rattle.line.proofs.Lengths.{count_most}
use Rattle.line.proofs.number.put_count.Goals as goal

pub put_digits-requires : goal.put_digits-requires
put_digits-requires c = rw c.from.ensures (omega (arith, c.requires, count_most c.args.n (omega arith)))

pub returns : goal.returns
returns c = loosen (count_most c.args.n (omega arith)) (rw c.from.ensures at c.put_digits.ensures)
