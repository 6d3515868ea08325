-- An accepted block has 512 bytes and 1 to 4 whole seconds, and can be written.
use Rattle.std.proofs.Common.{◌∙◌, arith, rules}
use Rattle.block.proofs.Seconds.{read_seconds}
use Rattle.block.proofs.Writing.{block_fits}
use Rattle.check_copy.proofs.Copy.{done, read_layout, copied_block}
use Rattle.check_copy.proofs.copy_block.Goals as goal

pub unwrap-requires : goal.unwrap-requires
unwrap-requires c =
    let l = read_layout c.args.bytes.now c.args.seconds c.args.n (λ i. (c.type_inv.bytes i).fits) c.in_ok-held.was c.read_block.ensures.count in
    let due = l.due in
    let size = c.as_flattened.ensures.len in
    done _ _ _ _ c.write_block.ensures (block_fits _ _ _ (record { len_is = search rules; number = omega (arith, l.number); whole = omega (arith, size); some = omega (arith, size, l.some); few = omega (arith, size, due) }))

pub returns : goal.returns
returns c =
    let f = read_seconds c.args.bytes.now c.args.seconds c.args.n c.in_ok-held.was c.read_block.ensures.count c.read_block.ensures.each in
    copied_block _ c.args.bytes.now _ c.args.seconds c.args.n _ c.in_ok-held.ensures.count f.number (c.as_flattened.ensures.value ∙ f.joined) c.write_block.ensures
