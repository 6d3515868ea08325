-- The name, and the sum in decimal.
use Rattle.std.proofs.Common.{◌≡◌, to_z, of_z, w64, rules, arith}
use Rattle.std.proofs.lemmas.Int.{to_z-of_z}
use Rattle.codec.proofs.Lents.{both, loosen}
use Rattle.line.specs.Text.{named}
use Rattle.line.proofs.Lengths.{decimal_64}
use Rattle.line.proofs.book_lines.put_named.Goals as goal

pub put_number-requires : goal.put_number-requires
put_number-requires c =
    let z : to_z w64 (of_z w64 c.args.v.0) ≡ c.args.v.0 = to_z-of_z w64 c.args.v.0 (search rules) in
    rw z (omega (arith, c.requires, c.put_bytes.ensures.put.next, c.put_bytes.ensures.long, decimal_64 c.args.v.0 (search rules)))

pub returns : goal.returns
unfolding named
returns c =
    let z : to_z w64 (of_z w64 c.args.v.0) ≡ c.args.v.0 = to_z-of_z w64 c.args.v.0 (search rules) in
    let d = decimal_64 c.args.v.0 (search rules) in
    loosen (omega (arith, d)) (both c.put_bytes.ensures (rw z at c.put_number.ensures))
