-- What the calls put, one after the other. The last puts the digits, which are twenty at most.
use Rattle.std.proofs.Common.{Fits, w64, rules, arith}
use Rattle.codec.proofs.Lents.{both, loosen}
use Rattle.line.specs.Short.{side_count_text}
use Rattle.line.proofs.Lengths.{amount_most}
use Rattle.line.proofs.short_lines.put_side_count.Goals as goal

pub put_digits-requires : goal.put_digits-requires
put_digits-requires c =
    let f : Fits w64 c.args.c.kw_seconds = search rules in
    omega (arith, c.requires, c.put_bytes.ensures.put.next, c.put_bytes.ensures.put.most, c.put_bytes.ensures.long, c.put_count.ensures.put.most, c.put_count.ensures.long, c.put_byte.ensures.put.next, c.put_byte.ensures.long, amount_most c.args.c.kw_seconds (omega arith))

pub returns : goal.returns
unfolding side_count_text
returns c =
    let f : Fits w64 c.args.c.kw_seconds = search rules in
    let d = amount_most c.args.c.kw_seconds (omega arith) in
    loosen (omega (arith, d)) (both c.put_bytes.ensures (both c.put_count.ensures (both c.put_byte.ensures c.put_digits.ensures)))
