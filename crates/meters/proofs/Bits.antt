-- Subtracting 50, over the bits as whole numbers. Assumes nothing.
use Rattle.std.proofs.Common.{◌≡◌, refl, sym, ap, ◌∙◌, subst, Bool, true, false, ℕ, zero, suc, ◌+◌, ◌-◌, ◌*◌, ◌^◌, ◌≤◌, ◌<◌, le_of_lt, zero-mul, mul-le-mul_right, arith, T, leb, ℤ, pos, neg_ℤ, ◌-ℤ◌, ◌*ℤ◌, leb-true, leb-false, le-leb}
use lib.Ieee.{Float, binary32, of_fields, of_bits, fits}
use lib.Ieee.Exact.{HasValue}
use borrow.Author.Tests.{lt-leb}
use Rattle.numbers.proofs.Difference.{less_up, less_down, sub_mul}
use Rattle.meters.specs.declared.Reading.TheVariants.{Frequency, Deviation}
use Rattle.meters.specs.Binary32.{bits_of, is_negative, field_of, digits_of, size_by, size_of, signed, finite_bits, exact_bits, exact, hertz, in_mhz}
use Rattle.meters.specs.Meters.{between, fair_reading, exact_deviation, bits50, less_fifty}
use Rattle.meters.specs.Claims.{bits45, bits55, distance}
use Rattle.meters.proofs.Value.{steps, bits_fields, fields_value}
use Rattle.meters.proofs.Fifty.{less_fifty_lem, sized, of_field, of_sign, of_low, of_high, lossless}

pub negated : (m w : ℕ) → neg_ℤ (pos m) *ℤ pos w ≡ neg_ℤ (pos (m * w))
negated zero w = ap pos (zero-mul w) ∙ sym (ap (λ (n : ℕ). neg_ℤ (pos n)) (zero-mul w))
negated (suc m) w = refl

-- a difference of counts of w
steps_apart : (k h b c w : ℕ) → k + c ≡ b + h → pos (k * w) -ℤ pos (h * w) ≡ (pos b -ℤ pos c) *ℤ pos w
steps_apart k h b c w e = go (leb c b) refl
  where
    above : c ≤ b → pos (k * w) -ℤ pos (h * w) ≡ (pos b -ℤ pos c) *ℤ pos w
    above l =
        less_up (k * w) (h * w) (mul-le-mul_right w (omega arith))
        ∙ ap pos (sym (sub_mul k h w) ∙ ap (λ (n : ℕ). n * w) (omega arith))
        ∙ ap (λ (z : ℤ). z *ℤ pos w) (sym (less_up b c l))

    below : b ≤ c → pos (k * w) -ℤ pos (h * w) ≡ (pos b -ℤ pos c) *ℤ pos w
    below l =
        less_down (k * w) (h * w) (mul-le-mul_right w (omega arith))
        ∙ ap (λ (n : ℕ). neg_ℤ (pos n)) (sym (sub_mul h k w) ∙ ap (λ (n : ℕ). n * w) (omega arith))
        ∙ sym (negated (c - b) w)
        ∙ ap (λ (z : ℤ). z *ℤ pos w) (sym (less_down b c l))

    go : (t : Bool) → leb c b ≡ t → pos (k * w) -ℤ pos (h * w) ≡ (pos b -ℤ pos c) *ℤ pos w
    go true l = above (leb-true c b l)
    go false l = below (le_of_lt (leb-false c b l))

module _ (b : ℕ) (low : bits45 ≤ b) (high : b ≤ bits55) where
  no_sign : is_negative b ≡ false
  no_sign = lt-leb (2 ^ 31) b (omega arith)

  one_field : field_of b ≡ 132
  one_field = omega arith

  -- the digits with the leading one
  abbrev counted : ℕ
  counted = 2 ^ 23 + digits_of b

  size_is : size_of b ≡ counted * 2 ^ 131
  unfolding size_of
  size_is = ap (λ (x : ℕ). size_by x (digits_of b)) one_field

  from_fifty : less_fifty_lem counted ≡ distance b
  from_fifty = steps_apart counted (50 * 2 ^ 18) b bits50 (2 ^ 131) (omega arith)

  pub by_bits : exact_bits b -ℤ pos (hertz 50) ≡ distance b
  unfolding exact_bits
  by_bits = (λ i. signed (no_sign i) (size_is i) -ℤ pos (hertz 50)) ∙ from_fifty

  valued : HasValue (of_bits binary32 b) false (counted * 2 ^ 131) steps
  valued =
      subst (λ (x : Float). HasValue x false (counted * 2 ^ 131) steps)
      (sym (bits_fields b ∙ (λ i. of_fields binary32 (no_sign i) (one_field i) (digits_of b))))
      (fields_value false 132 (digits_of b) tt)

  low_count : 45 * 2 ^ 18 ≤ counted
  low_count = omega arith

  high_count : counted ≤ 55 * 2 ^ 18
  high_count = omega arith

  pub difference : exact (less_fifty (of_bits binary32 b)) ≡ distance b
  difference = (sized counted low_count high_count (of_bits binary32 b) valued).is ∙ from_fifty

pub to_bits : (f : Float) → T (fits binary32 f) → fair_reading (Frequency f) ≡ true → (bits45 ≤ bits_of f) × (bits_of f ≤ bits55)
to_bits f held fair =
    go (bits_of f) (leb-false (2 ^ 31) (bits_of f) (of_sign f held fair)) (of_field f held fair) (of_low f held fair) (of_high f held fair)
  where
    go : (b : ℕ) → b < 2 ^ 31 → field_of b ≡ 132 → 45 * 2 ^ 18 ≤ 2 ^ 23 + digits_of b → 2 ^ 23 + digits_of b ≤ 55 * 2 ^ 18 → (bits45 ≤ b) × (b ≤ bits55)
    go b s h l u = omega arith

pub from_bits : (f : Float) → (bits45 ≤ bits_of f) × (bits_of f ≤ bits55) → fair_reading (Frequency f) ≡ true
unfolding fair_reading between finite_bits exact_bits
from_bits f h =
    let b = bits_of f in
    let k = counted b h.0 h.1 in
    rw (
      one_field b h.0 h.1,
      no_sign b h.0 h.1,
      size_is b h.0 h.1,
      le-leb (hertz 45) (k * 2 ^ 131) (mul-le-mul_right (2 ^ 131) (low_count b h.0 h.1)),
      le-leb (k * 2 ^ 131) (hertz 55) (mul-le-mul_right (2 ^ 131) (high_count b h.0 h.1)),
    )

pub same_mhz : (f : Float) → T (fits binary32 f) → fair_reading (Frequency f) ≡ true → in_mhz (exact_deviation (Frequency f)) ≡ in_mhz (exact_deviation (Deviation (less_fifty f)))
unfolding exact_deviation
same_mhz f held fair = ap in_mhz (sym (lossless f held fair).is)
