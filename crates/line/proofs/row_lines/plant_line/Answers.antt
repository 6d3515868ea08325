-- What the calls put, one after the other, where there is room.
use Rattle.std.proofs.Common.{rules, ◌∙◌, arith}
use Rattle.codec.proofs.Lents.{both}
use Rattle.line.specs.Line.{row_text}
use Rattle.line.proofs.Lines.{written}
use Rattle.line.proofs.row_lines.plant_line.Goals as goal

pub returns : goal.returns
unfolding row_text
returns c =
    let g = both c.put_start.ensures (both c.put_kind.ensures (both c.put_kind-2.ensures (both c.put_kind-3.ensures (both c.put_field.ensures c.put_byte.ensures)))) in
    let same = g.same ∙ c.new-lent.ensures.same in
    written c.in_ok-check_room.ensures (omega arith) c.new-lent.ensures.bytes c.new-lent.ensures.start (search rules) g
