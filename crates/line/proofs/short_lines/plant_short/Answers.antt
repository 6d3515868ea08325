-- What the calls put, one after the other, where there is room.
use Rattle.std.proofs.Common.{rules, ◌∙◌, arith}
use Rattle.codec.proofs.Lents.{both}
use Rattle.line.specs.Short.{short_text}
use Rattle.line.proofs.Lines.{written}
use Rattle.line.proofs.short_lines.plant_short.Goals as goal

pub returns : goal.returns
unfolding short_text
returns c =
    let g = both c.put_side.ensures (both c.put_side-2.ensures c.put_side-3.ensures) in
    let same = g.same ∙ c.new-lent.ensures.same in
    written c.in_ok-check_room.ensures (omega arith) c.new-lent.ensures.bytes c.new-lent.ensures.start (search rules) g
