-- What the calls put, one after the other, where there is room.
use Rattle.std.proofs.Common.{rules, ◌∙◌, arith}
use Rattle.codec.proofs.Lents.{both}
use Rattle.line.specs.Shares.{shares_text}
use Rattle.line.proofs.Lines.{written}
use Rattle.line.proofs.share_lines.plant_shares.Goals as goal

pub returns : goal.returns
unfolding shares_text
returns c =
    let g = both c.put_start.ensures (both c.put_field.ensures (both c.put_unsigned.ensures (both c.put_roundings.ensures c.put_byte.ensures))) in
    let same = g.same ∙ c.new-lent.ensures.same in
    written c.in_ok-check_room.ensures (omega arith) c.new-lent.ensures.bytes c.new-lent.ensures.start (search rules) g
