-- Below the field 116 it is 0, and else a quotient by a power of two.
use Rattle.std.proofs.Common.{◌≡◌, ℕ, ◌+◌, ◌-◌, ◌*◌, ◌/◌, ◌%◌, ◌^◌, ◌≤◌, ◌<◌, sym, ap, ◌∙◌, subst, arith, pow_pos, pow_mono}
use Rattle.power.specs.Units.{most_deviation}
use Rattle.meters.specs.Binary32.{size_of, hertz, nearest_whole}
use Rattle.meters.proofs.Round.{size_low, field_most, size_high, shifted, mhz_most}
use Rattle.meters.proofs.deviation.size_in_mhz.Goals as goal

-- what is to be shown of a result
small : (b : ℕ) → size_of b ≤ hertz 5 → {r : ℕ} → r ≡ nearest_whole (size_of b * 1000) (hertz 1) → (r ≡ nearest_whole (size_of b * 1000) (hertz 1)) × (r ≤ most_deviation)
small b h e = (e, subst (λ (n : ℕ). n ≤ most_deviation) (sym e) (mhz_most (size_of b) h))

-- the divisor
module _ (b : ℕ) (h : 116 ≤ b / 2 ^ 23) where
  abbrev places : ℕ
  places = 150 - b / 2 ^ 23

  divisor : 1 * 2 ^ places % 2 ^ 64 ≡ 2 ^ places
  divisor = shifted places (omega arith)

pub returns-then-field-lt-HALF_MHZ : goal.returns-then-field-lt-HALF_MHZ
returns-then-field-lt-HALF_MHZ c = small c.args.bits c.requires.1 (size_low c.args.bits c.requires.0 c.if-field-lt-HALF_MHZ.true)

pub overflow_sub-field : goal.overflow_sub-field
overflow_sub-field c = omega (arith, field_most c.args.bits c.requires.0 c.requires.1)

pub nearest-requires : goal.nearest-requires
nearest-requires c =
    let b = c.args.bits in
    let h = c.if-field-lt-HALF_MHZ.false in
    let e = divisor b h in (
      omega arith,
      subst (λ (n : ℕ). 0 < n) (sym e) (pow_pos (places b h)),
      subst (λ (n : ℕ). n ≤ 2 ^ 34) (sym e) (pow_mono {i = places b h} {j = 34} (omega arith)),
    )

pub returns : goal.returns
returns c =
    let b = c.args.bits in
    let h = c.if-field-lt-HALF_MHZ.false in
    small b c.requires.1
    (rw c.from-digits.ensures at c.nearest.ensures ∙ ap (nearest_whole ((2 ^ 23 + b % 2 ^ 23) * 1000)) (divisor b h) ∙ size_high b c.requires.0 c.requires.1 h)
