-- A space, and the number in decimal.
use Rattle.std.proofs.Common.{◌≡◌, ◌∙◌, to_z, of_z, w32, w64, rules, arith}
use Rattle.std.proofs.lemmas.Int.{to_z-of_z}
use Rattle.codec.proofs.Lents.{both, loosen}
use Rattle.line.specs.Text.{field}
use Rattle.line.proofs.Lengths.{decimal_32}
use Rattle.line.proofs.number.put_field.Goals as goal

pub put_number-requires : goal.put_number-requires
put_number-requires g c =
    let z : to_z w64 (of_z w64 c.from.result) ≡ c.number.result = to_z-of_z w64 c.from.result (search rules) ∙ c.from.ensures ∙ to_z-of_z w32 c.number.result (search rules) in
    rw z (omega (arith, c.requires, c.put_byte.ensures.put.next, c.put_byte.ensures.long, decimal_32 c.number.result (search rules)))

pub returns : goal.returns
unfolding field
returns g c =
    let z : to_z w64 (of_z w64 c.from.result) ≡ c.number.result = to_z-of_z w64 c.from.result (search rules) ∙ c.from.ensures ∙ to_z-of_z w32 c.number.result (search rules) in
    let d = decimal_32 c.number.result (search rules) in
    rw (← c.number.ensures) (loosen (omega (arith, d)) (both c.put_byte.ensures (rw z at c.put_number.ensures)))
