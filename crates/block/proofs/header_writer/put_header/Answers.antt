-- The fields, put one after the other, are what stands before the check.
use Rattle.std.proofs.Common.{rules, refl, ◌∙◌}
use Rattle.block.specs.Layout.{header_front}
use Rattle.block.proofs.Puts.{header_put, checked}
use Rattle.block.proofs.header_writer.put_header.Goals as goal

pub returns : goal.returns
unfolding header_front
returns c =
    let lent = c.new-lent.ensures in
    let front = header_put c.args.header.owner c.args.header.seconds lent.start c.put_bytes.ensures c.put_u16.ensures c.put_byte.ensures c.put_byte-2.ensures c.put_u32.ensures c.put_zeros.ensures in
    let same = c.put_check.ensures.same ∙ front.same ∙ lent.same in
    let done = checked (search rules) lent.start refl front c.put_check.ensures in
    search rules
