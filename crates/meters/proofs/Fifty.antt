-- "subtracting 50 loses nothing anywhere in that range". From 45 to 55 every binary32 has the field 132, so it is a whole number k of 2 ^ 131 steps, that
-- is of 2 ^ -18 Hz, with k of 24 digits; 50 is 50 * 2 ^ 18 of them. The difference is then a whole number of them with fewer digits than the format
-- keeps, and `round` changes nothing. Assumes nothing.
use Rattle.std.proofs.Common.{◌≡◌, refl, sym, ap, ◌∙◌, subst, ℕ, zero, suc, ◌+◌, ◌-◌, ◌*◌, ◌^◌, ◌≤◌, ◌<◌, le_trans, le_of_eq, le_of_lt, not-le_of_lt, lt_of_le_of_lt, mul-one, mul_assoc, mul_right_comm, mul-le-mul, mod-lt, lt_of_mul-lt-mul_right, lt_of_lt_of_le, mul-pos, mul-lt-mul_of_pos_right, le_of_mul-le-mul_right, mul-le-mul_right, arith, Bool, true, false, cond, ◌&&◌, T, ltb, lit<, lit≤, ℤ, pos, neg_ℤ, ◌-ℤ◌, ◌≤ℤ◌, pow_pos, pow_mono, ltb-true, ltb-false, leb-true}
use Rattle.std.specs.Int.Signed.{le_z}
use Rattle.std.proofs.Math.Nat.{eq_of_mul-eq-mul_right}
use lib.Ieee.{Float, nan, inf, fin, binary32, up, down, round, sum, sub, of_bits, fits}
use lib.Ieee.Fits.{down_pos, sub-fits}
use lib.Ieee.Exact.{HasValue, round_exact}
use lib.Ieee.Bits.{is_true}
use Rattle.numbers.proofs.Parts.{shows, sub_nat, neg_nat}
use Rattle.numbers.proofs.Difference.{less_up, less_down, sub_mul}
use Rattle.numbers.proofs.Rules.{both_true}
use Rattle.numbers.proofs.Test.{flags}
use Rattle.meters.specs.Binary32.{bits_of, is_negative, field_of, digits_of, size_by, size_of, signed, exact_bits, finite, exact, hertz}
use Rattle.meters.specs.declared.Reading.TheVariants.{Frequency, Deviation}
use Rattle.meters.specs.Meters.{between, fair_reading, exact_deviation, bits50, less_fifty, IsDeviation}
use Rattle.meters.proofs.Value.{steps, value, Holds, holds}

-- ---- the field is 132

under_45 : (x t : ℕ) → x ≤ 130 → t < 2 ^ 23 → (2 ^ 23 + t) * 2 ^ x < hertz 45
under_45 x t h k = lt_of_le_of_lt (mul-le-mul (twice t k) (pow_mono h)) (lit< tt)
  where
    twice : (t : ℕ) → t < 2 ^ 23 → 2 ^ 23 + t ≤ 2 ^ 24
    twice t k = omega arith

above_55 : (x t : ℕ) → 132 ≤ x → 2 ^ 155 ≤ (2 ^ 23 + t) * 2 ^ x
above_55 x t h = mul-le-mul (once t) (pow_mono h)
  where
    once : (t : ℕ) → 2 ^ 23 ≤ 2 ^ 23 + t
    once t = omega arith

pub same_field : (x t : ℕ) → t < 2 ^ 23 → hertz 45 ≤ size_by x t → size_by x t ≤ hertz 55 → x ≡ 132
same_field zero t k lo hi = absurd (not-le_of_lt (lt_of_lt_of_le k (lit≤ tt)) lo)
same_field (suc x) t k lo hi = at x (λ h. not-le_of_lt (under_45 x t h k) lo) (λ h. not-le_of_lt (lit< tt) (le_trans (above_55 x t h) hi))
  where
    at : (x : ℕ) → (x ≤ 130 → ⊥) → (132 ≤ x → ⊥) → suc x ≡ 132
    at x p q = omega arith

-- ---- the size and the sign of a number from 45 to 55

record Range (s : Bool) (n : ℕ) : Type 0 where
  unsigned : s ≡ false
  low : hertz 45 ≤ n
  high : n ≤ hertz 55

ranged : (s : Bool) (n : ℕ) → le_z (pos (hertz 45)) (signed s n) ≡ true → le_z (signed s n) (pos (hertz 55)) ≡ true → Range s n
ranged false n l h = record { unsigned = refl; low = leb-true (hertz 45) n l; high = leb-true n (hertz 55) h }
ranged true zero l h = absurd (subst T (sym l) tt)
ranged true (suc n) l h = absurd (subst T (sym l) tt)

-- ---- the difference

-- one fraction for another of the same size
rescaled : (x : Float) (s : Bool) (n d m : ℕ) → 0 < d → n * steps ≡ m * d → HasValue x s n d → HasValue x s m steps
rescaled nan s n d m D e v = v
rescaled (inf t) s n d m D e v = v
rescaled (fin t a c) s n d m D e v = (
  v.0,
  eq_of_mul-eq-mul_right d D (a * up c * steps) (m * down c)
      (mul_right_comm (a * up c) steps d ∙ ap (λ (z : ℕ). z * steps) v.1 ∙ mul_right_comm n (down c) steps ∙ ap (λ (z : ℕ). z * down c) e ∙ mul_right_comm m d (down c)),
)

-- q of 2 ^ 131 steps are kept as they are
kept : (s : Bool) (n d q : ℕ) → 0 < d → q < 2 ^ 24 → n * steps ≡ q * 2 ^ 131 * d → HasValue (round binary32 s n d) s (q * 2 ^ 131) steps
kept s n d q D small e = rescaled (round binary32 s n d) s n d (q * 2 ^ 131) D e (round_exact binary32 s n d q 131 D small (fine q small) e)
  where
    fine : (q : ℕ) → q < 2 ^ 24 → q * 2 ^ 131 < 2 ^ 277
    fine q h = lt_of_lt_of_le (mul-lt-mul_of_pos_right h (pow_pos 131)) (lit≤ tt)

-- k of 2 ^ 131 steps less 50 Hz, with its sign
abbrev pub less_fifty_lem : ℕ → ℤ
less_fifty_lem k = pos (k * 2 ^ 131) -ℤ pos (hertz 50)

less : (a b p q u d : ℕ) → a * u ≡ p * d → b * u ≡ q * d → (a - b) * u ≡ (p - q) * d
less a b p q u d e f = sub_mul a b u ∙ (λ i. e i - f i) ∙ sym (sub_mul p q d)

module _ (k a d : ℕ) (D : 0 < d) (low : 45 * 2 ^ 18 ≤ k) (high : k ≤ 55 * 2 ^ 18) (is : a * steps ≡ k * 2 ^ 131 * d) where
  fifties : 50 * d * steps ≡ 50 * 2 ^ 18 * 2 ^ 131 * d
  fifties = mul_right_comm 50 d steps

  factored : (p q : ℕ) → (p * 2 ^ 131 - q * 2 ^ 131) * d ≡ (p - q) * 2 ^ 131 * d
  factored p q = ap (λ (z : ℕ). z * d) (sym (sub_mul p q (2 ^ 131)))

  summed : HasValue (sum binary32 false a true (50 * d) d) (ltb a (50 * d)) (cond (ltb a (50 * d)) ((50 * 2 ^ 18 - k) * 2 ^ 131) ((k - 50 * 2 ^ 18) * 2 ^ 131)) steps
  unfolding sum
  summed = go (ltb a (50 * d))
    where
      below : (k : ℕ) → 45 * 2 ^ 18 ≤ k → 50 * 2 ^ 18 - k < 2 ^ 24
      below k h = omega arith

      above : (k : ℕ) → k ≤ 55 * 2 ^ 18 → k - 50 * 2 ^ 18 < 2 ^ 24
      above k h = omega arith

      go : (t : Bool) → HasValue (cond t (round binary32 true (50 * d - a) d) (round binary32 false (a - 50 * d) d)) t (cond t ((50 * 2 ^ 18 - k) * 2 ^ 131) ((k - 50 * 2 ^ 18) * 2 ^ 131)) steps
      go true = kept true (50 * d - a) d (50 * 2 ^ 18 - k) D (below k low) (less (50 * d) a (50 * 2 ^ 18 * 2 ^ 131) (k * 2 ^ 131) steps d fifties is ∙ factored (50 * 2 ^ 18) k)
      go false = kept false (a - 50 * d) d (k - 50 * 2 ^ 18) D (above k high) (less a (50 * d) (k * 2 ^ 131) (50 * 2 ^ 18 * 2 ^ 131) steps d is fifties ∙ factored k (50 * 2 ^ 18))

  -- the sign is that of k less 50 * 2 ^ 18
  record Side (t : Bool) : Type 0 where
    side : signed t (cond t ((50 * 2 ^ 18 - k) * 2 ^ 131) ((k - 50 * 2 ^ 18) * 2 ^ 131)) ≡ less_fifty_lem k

  sided : (t : Bool) → ltb a (50 * d) ≡ t → Side t
  sided true e = record { side = down k (lt_of_mul-lt-mul_right (2 ^ 131 * d) (smaller (ltb-true a (50 * d) e))) }
    where
      smaller : a < 50 * d → k * (2 ^ 131 * d) < 50 * 2 ^ 18 * (2 ^ 131 * d)
      smaller h =
          lt_of_le_of_lt (le_of_eq (sym (mul_assoc k (2 ^ 131) d) ∙ sym is))
          (lt_of_lt_of_le (mul-lt-mul_of_pos_right h (pow_pos 149)) (le_of_eq (fifties ∙ mul_assoc (50 * 2 ^ 18) (2 ^ 131) d)))

      down : (k : ℕ) → k < 50 * 2 ^ 18 → neg_ℤ (pos ((50 * 2 ^ 18 - k) * 2 ^ 131)) ≡ less_fifty_lem k
      down k h = ap (λ (n : ℕ). neg_ℤ (pos n)) (sub_mul (50 * 2 ^ 18) k (2 ^ 131)) ∙ sym (less_down (k * 2 ^ 131) (hertz 50) (mul-le-mul_right (2 ^ 131) (le_of_lt h)))
  sided false e = record { side = upward k (le_of_mul-le-mul_right (larger (ltb-false a (50 * d) e)) (mul-pos (pow_pos 131) D)) }
    where
      larger : 50 * d ≤ a → 50 * 2 ^ 18 * (2 ^ 131 * d) ≤ k * (2 ^ 131 * d)
      larger h =
          le_trans (le_of_eq (sym (mul_assoc (50 * 2 ^ 18) (2 ^ 131) d) ∙ sym fifties))
          (le_trans (mul-le-mul_right steps h) (le_of_eq (is ∙ mul_assoc k (2 ^ 131) d)))

      upward : (k : ℕ) → 50 * 2 ^ 18 ≤ k → pos ((k - 50 * 2 ^ 18) * 2 ^ 131) ≡ less_fifty_lem k
      upward k h = ap pos (sub_mul k (50 * 2 ^ 18) (2 ^ 131)) ∙ sym (less_up (k * 2 ^ 131) (hertz 50) (mul-le-mul_right (2 ^ 131) h))

-- what has a signed number of steps
record Signed (x : Float) (z : ℤ) : Type 0 where
  sign : Bool
  size : ℕ
  has : HasValue x sign size steps
  is : signed sign size ≡ z

minus_fifty : (m : ℕ) (e : ℤ) → less_fifty (fin false m e) ≡ sum binary32 false (m * up e) true (50 * down e) (down e)
unfolding sub of_bits
minus_fifty m e = λ i. sum binary32 false (mul-one (m * up e) i) true (50 * down e) (mul-one (down e) i)

module _ (k : ℕ) (low : 45 * 2 ^ 18 ≤ k) (high : k ≤ 55 * 2 ^ 18) where
  difference : (f : Float) → HasValue f false (k * 2 ^ 131) steps → Signed (less_fifty f) (less_fifty_lem k)
  difference nan v = absurd v
  difference (inf s) v = absurd v
  difference (fin true m e) v = absurd (subst T v.0 tt)
  difference (fin false m e) v =
      let t = ltb (m * up e) (50 * down e) in
      record {
        sign = t;
        size = cond t ((50 * 2 ^ 18 - k) * 2 ^ 131) ((k - 50 * 2 ^ 18) * 2 ^ 131);
        has = subst (λ (x : Float). HasValue x t (cond t ((50 * 2 ^ 18 - k) * 2 ^ 131) ((k - 50 * 2 ^ 18) * 2 ^ 131)) steps) (sym (minus_fifty m e)) (summed k (m * up e) (down e) (down_pos e) low high v.1);
        is = (sided k (m * up e) (down e) (down_pos e) low high v.1 t refl).side;
      }

  -- by its size alone
  pub sized : (f : Float) → HasValue f false (k * 2 ^ 131) steps → Holds (less_fifty f) (less_fifty_lem k)
  sized f v =
      let d = difference f v in
      let h = holds (less_fifty f) d.sign d.size (sub-fits binary32 f (of_bits binary32 bits50)) d.has in
      record { is_finite = h.is_finite; is = h.is ∙ d.is }

-- ---- an f32 from 45 to 55

module _ (f : Float) (held : T (fits binary32 f)) (fair : fair_reading (Frequency f) ≡ true) where
  parts : (finite f ≡ true) × (le_z (pos (hertz 45)) (exact f) ≡ true) × (le_z (exact f) (pos (hertz 55)) ≡ true)
  unfolding fair_reading between
  parts =
      let p = both_true (finite f) (le_z (pos (hertz 45)) (exact f) && le_z (exact f) (pos (hertz 55))) fair in
      let q = both_true (le_z (pos (hertz 45)) (exact f)) (le_z (exact f) (pos (hertz 55))) p.1 in
      (p.0, q.0, q.1)

  range : Range (is_negative (bits_of f)) (size_of (bits_of f))
  unfolding exact_bits
  range = ranged (is_negative (bits_of f)) (size_of (bits_of f)) parts.1 parts.2

  pub of_sign : is_negative (bits_of f) ≡ false
  of_sign = range.unsigned

  pub of_field : field_of (bits_of f) ≡ 132
  unfolding size_of
  of_field = same_field (field_of (bits_of f)) (digits_of (bits_of f)) (mod-lt (bits_of f) (pow_pos 23)) range.low range.high

  -- its digits with the leading one
  abbrev counted : ℕ
  counted = 2 ^ 23 + digits_of (bits_of f)

  of_size : size_of (bits_of f) ≡ counted * 2 ^ 131
  unfolding size_of
  of_size = ap (λ (x : ℕ). size_by x (digits_of (bits_of f))) of_field

  pub of_low : 45 * 2 ^ 18 ≤ counted
  of_low = lowest counted (subst (λ (n : ℕ). hertz 45 ≤ n) of_size range.low)
    where
      lowest : (k : ℕ) → hertz 45 ≤ k * 2 ^ 131 → 45 * 2 ^ 18 ≤ k
      lowest k h = le_of_mul-le-mul_right h (pow_pos 131)

  pub of_high : counted ≤ 55 * 2 ^ 18
  of_high = highest counted (subst (λ (n : ℕ). n ≤ hertz 55) of_size range.high)
    where
      highest : (k : ℕ) → k * 2 ^ 131 ≤ hertz 55 → k ≤ 55 * 2 ^ 18
      highest k h = le_of_mul-le-mul_right h (pow_pos 131)

  valued : HasValue f false (counted * 2 ^ 131) steps
  valued =
      subst (λ (s : Bool). HasValue f s (counted * 2 ^ 131) steps) of_sign
      (subst (λ (n : ℕ). HasValue f (is_negative (bits_of f)) n steps) of_size (value f held parts.0))

  pub lossless : Holds (less_fifty f) (exact f -ℤ pos (hertz 50))
  unfolding exact_bits
  lossless =
      let h = sized counted of_low of_high f valued in
      record { is_finite = h.is_finite; is = h.is ∙ sym (λ i. signed (of_sign i) (of_size i) -ℤ pos (hertz 50)) }

-- ---- and its range: 45 to 55 less 50

pub shifted : (a b c l : ℕ) (z : ℤ) → c ≡ a + l → b ≡ c + l → le_z (pos a) z ≡ true → le_z z (pos b) ≡ true → (le_z (neg_ℤ (pos l)) (z -ℤ pos c) ≡ true) × (le_z (z -ℤ pos c) (pos l) ≡ true)
shifted a b c l z e f h k =
    let low : neg_ℤ (pos l) ≤ℤ (z -ℤ pos c) = omega (arith, flags, shows, sub_nat z (pos c), neg_nat (pos l)) in
    let high : (z -ℤ pos c) ≤ℤ pos l = omega (arith, flags, shows, sub_nat z (pos c)) in
    (is_true (le_z (neg_ℤ (pos l)) (z -ℤ pos c)) low.le, is_true (le_z (z -ℤ pos c) (pos l)) high.le)

module _ (f : Float) (held : T (fits binary32 f)) (fair : fair_reading (Frequency f) ≡ true) where
  pub difference_fair : fair_reading (Deviation (less_fifty f)) ≡ true
  unfolding fair_reading between
  difference_fair =
      let p = parts f held fair in
      let l = lossless f held fair in
      let s = shifted (hertz 45) (hertz 55) (hertz 50) (hertz 5) (exact f) refl refl p.1 p.2 in
      rw (l.is_finite, l.is, s.0, s.1)

  pub exact_case : IsDeviation (exact_deviation (Frequency f)) (less_fifty f)
  unfolding exact_deviation
  exact_case = record { fair = difference_fair; is = (lossless f held fair).is }
