-- The minus sign below 0, and the digits.
use Rattle.std.proofs.Common.{◌≡◌, ◌++◌, true, false, ℕ, ℤ, pos, nat_abs, ap, sym, ◌∙◌, length, to_z, of_z, FitsSigned, w64, arith}
use Rattle.std.specs.Int.Signed.{lt_z}
use Rattle.std.proofs.lemmas.Int.{to_z-of_z}
use Rattle.codec.proofs.Lents.{both, loosen}
use Rattle.line.specs.Text.{ascii, digits, decimal}
use Rattle.line.proofs.Signs.{decimal_below, decimal_above}
use Rattle.line.proofs.number.put_number.Goals as goal

module _ {z : ℤ} {n : ℕ} (f : FitsSigned w64 z) (size : n ≡ nat_abs (to_z w64 (of_z w64 z))) where
  held : to_z w64 (of_z w64 z) ≡ z
  held = to_z-of_z w64 z f

  minus : lt_z (to_z w64 (of_z w64 z)) (pos 0) ≡ true → decimal z ≡ ascii "-" ++ digits n
  minus e = decimal_below z (rw held at e) ∙ ap (λ (k : ℕ). ascii "-" ++ digits k) (sym (rw held at size))

  plain : lt_z (to_z w64 (of_z w64 z)) (pos 0) ≡ false → decimal z ≡ digits n
  plain e = decimal_above z (rw held at e) ∙ ap digits (sym (rw held at size))

pub put_byte-requires : goal.put_byte-requires
put_byte-requires c = omega (arith, c.requires, ap length (minus c.ranges.n c.unsigned_abs-size.ensures.value (sym c.is_negative.ensures ∙ c.if-is_negative.true)))

pub put_digits-requires : goal.put_digits-requires
put_digits-requires c = omega (arith, c.requires, c.put_byte.ensures.put.next, c.put_byte.ensures.long, ap length (minus c.ranges.n c.unsigned_abs-size.ensures.value (sym c.is_negative.ensures ∙ c.if-is_negative.true)))

pub put_digits-requires-else-is_negative : goal.put_digits-requires-else-is_negative
put_digits-requires-else-is_negative c = omega (arith, c.requires, ap length (plain c.ranges.n c.unsigned_abs-size.ensures.value (sym c.is_negative.ensures ∙ c.if-is_negative.false)))

pub returns-then-is_negative : goal.returns-then-is_negative
returns-then-is_negative c = rw (minus c.ranges.n c.unsigned_abs-size.ensures.value (sym c.is_negative.ensures ∙ c.if-is_negative.true)) (loosen (omega arith) (both c.put_byte.ensures c.put_digits.ensures))

pub returns-else-is_negative : goal.returns-else-is_negative
returns-else-is_negative c = rw (plain c.ranges.n c.unsigned_abs-size.ensures.value (sym c.is_negative.ensures ∙ c.if-is_negative.false)) c.put_digits-else-is_negative.ensures
