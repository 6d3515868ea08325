-- Either kind of line is a chain of its parts.
use Rattle.std.proofs.Common.{arith}
use Rattle.codec.proofs.Lents.{both, loosen}
use Rattle.choose_meter.specs.Printed.{line_text}
use Rattle.choose_meter.proofs.lines.put_answer.Goals as goal
use Rattle.choose_meter.proofs.lines.put_answer.Goals.{in-Ok, in-Err}

pub returns : goal.returns
unfolding line_text
returns c =
    elim c.match-answer.branch [
      | in-Ok w ↦ rw w.in-Ok.is (loosen (omega arith) (both w.put_byte.ensures (both w.put_field.ensures (rw w.lent-is at c.put_byte-2.ensures))))
      | in-Err w ↦ rw w.in-Err.is (loosen (omega arith) (both (rw (w.from.ensures, w.number.ensures) at w.put_count.ensures) (rw w.lent-is at c.put_byte-2.ensures)))
    ]
