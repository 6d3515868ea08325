-- The fields, put one after the other, are what stands before the check.
use Rattle.std.proofs.Common.{rules, ◌∙◌}
use Rattle.block.proofs.Puts.{block_put, block_front_length, checked}
use Rattle.block.proofs.block_writer.put_block.Goals as goal

pub returns : goal.returns
returns c =
    let lent = c.new-lent.ensures in
    let body = c.args.seconds.now in
    let front = block_put c.args.n body lent.start c.put_u32.ensures c.put_byte.ensures c.put_zeros.ensures c.put_bytes.ensures c.put_zeros-2.ensures c.requires in
    let same = c.put_check.ensures.same ∙ front.same ∙ lent.same in
    let done = checked (search rules) lent.start (block_front_length c.args.n body c.requires) front c.put_check.ensures in
    search rules
