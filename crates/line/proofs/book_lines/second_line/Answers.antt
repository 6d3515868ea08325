-- What the calls put, one after the other, where there is room.
use Rattle.std.proofs.Common.{rules, ◌∙◌, arith}
use Rattle.codec.proofs.Lents.{both}
use Rattle.line.specs.Line.{second_text}
use Rattle.line.proofs.Lines.{written}
use Rattle.line.proofs.book_lines.second_line.Goals as goal

pub returns : goal.returns
unfolding second_text
returns c =
    let g = both c.put_count.ensures (both c.put_plant.ensures (both c.put_plant-2.ensures (both c.put_plant-3.ensures c.put_byte.ensures))) in
    let same = g.same ∙ c.new-lent.ensures.same in
    written c.in_ok-check_room.ensures (omega arith) c.new-lent.ensures.bytes c.new-lent.ensures.start (search rules) g
