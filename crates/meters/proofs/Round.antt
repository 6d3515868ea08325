-- Rounding to whole mHz by the bits. Assumes nothing.
use Rattle.std.proofs.Common.{◌≡◌, refl, sym, ap, ◌∙◌, subst, ℕ, zero, suc, ◌+◌, ◌-◌, ◌*◌, ◌/◌, ◌%◌, ◌^◌, ◌≤◌, ◌<◌, le_trans, le_of_eq, le_of_lt, lt_of_le_of_lt, not-le_of_lt, mul_assoc, mul_comm, mul_left_comm, mul-le-mul, mul-le-mul_right, mod-eq_of_lt, mod-lt, one-mul, add-one, arith, Bool, true, false, not, T, eqb, leb→le, eqb→eq, lit<, lit≤, pos, neg_ℤ, pow-add, pow_pos, pow_mono, lt-ltb}
use Rattle.std.specs.Int.Signed.{le_z}
use Prim.Native.Nat.{compare, Ordering}
use Rattle.std.proofs.Math.Nat.{div-eq_of_lt}
use Rattle.std.proofs.Math.Dec.{is_le, compare_is_eq, nleb→lt, eqb_refl}
use Rattle.std.proofs.Math.Arith.{lt_of_le-ne}
use lib.Ieee.{nearest}
use lib.Ieee.Nearest.{closest, closest_same, closest_mono}
use Rattle.numbers.proofs.Parts.{neg_nat}
use Rattle.numbers.proofs.Test.{tests, flags}
use Rattle.power.specs.Units.{most_deviation}
use Rattle.meters.specs.Binary32.{field_of, digits_of, size_by, size_of, signed, hertz, nearest_whole, in_mhz}

-- ---- the nearest whole number, by a comparison of twice the remainder with the divisor

-- what `compare` says
abbrev pub Compared : Ordering → ℕ → ℕ → Type 0
Compared Ordering.lt a b = a < b
Compared Ordering.eq a b = a ≡ b
Compared Ordering.gt a b = b < a

pub compared : (a b : ℕ) → Compared (compare a b) a b
compared a b = go (compare a b) (leb→le a b) (nleb→lt a b) (eqb→eq a b) (λ (e : a ≡ b). subst (λ (n : ℕ). T (eqb a n)) e (eqb_refl a))
  where
    go : (o : Ordering) → (T (is_le o) → a ≤ b) → (T (not (is_le o)) → b < a) → (T (compare_is_eq o) → a ≡ b) → (a ≡ b → T (compare_is_eq o)) → Compared o a b
    go Ordering.lt h k e n = lt_of_le-ne (h tt) n
    go Ordering.eq h k e n = e tt
    go Ordering.gt h k e n = k tt

module _ (n d : ℕ) where
  -- it is the library's
  pub nearest_is : nearest_whole n d ≡ closest n d
  unfolding nearest_whole
  nearest_is = sym (go (compare (n % d * 2) d) (compared (n % d * 2) d))
    where
      go : (o : Ordering) → Compared o (n % d * 2) d → nearest (n / d) o ≡ nearest_whole n d
      go Ordering.lt h = search tests depth 9
      go Ordering.eq h = let l = le_of_eq h in let m = le_of_eq (sym h) in search tests depth 9
      go Ordering.gt h = let l = le_of_lt h in sym (add-one (n / d)) ∙ search tests depth 9

  round_zero : n < d → n * 2 < d → nearest_whole n d ≡ 0
  unfolding nearest_whole
  round_zero h k = rw (mod-eq_of_lt h, lt-ltb (n * 2) d k, div-eq_of_lt h)

-- of equal quotients, and of a larger one
nearest_same : (a b c d : ℕ) → 0 < b → 0 < d → a * d ≡ c * b → nearest_whole a b ≡ nearest_whole c d
nearest_same a b c d B D e = nearest_is a b ∙ closest_same a b c d B D e ∙ sym (nearest_is c d)

nearest_mono : (a b c d : ℕ) → 0 < b → 0 < d → a * d ≤ c * b → nearest_whole a b ≤ nearest_whole c d
nearest_mono a b c d B D h = rw (nearest_is a b, nearest_is c d) (closest_mono a b c d B D h)

-- ---- the size of a number by its field and digits, in mHz

-- a field up to 115: below 2 ^ -11 Hz, less than half a mHz
low_size : (x t : ℕ) → x < 116 → t < 2 ^ 23 → size_by x t ≤ 2 ^ 138
low_size zero t h k = le_trans (le_of_lt k) (lit≤ tt)
low_size (suc x) t h k = mul-le-mul (twice t k) (pow_mono (one x h))
  where
    twice : (t : ℕ) → t < 2 ^ 23 → 2 ^ 23 + t ≤ 2 ^ 24
    twice t k = omega arith

    one : (x : ℕ) → suc x < 116 → x ≤ 114
    one x h = omega arith

pub low_mhz : (x t : ℕ) → x < 116 → t < 2 ^ 23 → nearest_whole (size_by x t * 1000) (hertz 1) ≡ 0
low_mhz x t h k = let s = low_size x t h k in round_zero (size_by x t * 1000) (hertz 1) (once (size_by x t) s) (twice (size_by x t) s)
  where
    once : (n : ℕ) → n ≤ 2 ^ 138 → n * 1000 < hertz 1
    once n h = lt_of_le_of_lt (mul-le-mul_right 1000 h) (lit< tt)

    twice : (n : ℕ) → n ≤ 2 ^ 138 → n * 1000 * 2 < hertz 1
    twice n h = lt_of_le_of_lt (mul-le-mul_right 2 (mul-le-mul_right 1000 h)) (lit< tt)

-- any other field x up to 150: the digits, over 2 ^ (150 - x)
pub high_mhz : (x t : ℕ) → 0 < x → x ≤ 150 → nearest_whole (size_by x t * 1000) (hertz 1) ≡ nearest_whole ((2 ^ 23 + t) * 1000) (2 ^ (150 - x))
high_mhz zero t h k = absurd (no h)
  where
    no : 0 < 0 → ⊥
    no h = omega arith
high_mhz (suc x) t h k =
    nearest_same (m * 2 ^ x * 1000) (hertz 1) (m * 1000) (2 ^ (150 - suc x)) (lit< tt) (pow_pos (150 - suc x))
    (swapped m (2 ^ x) (2 ^ (150 - suc x)) ∙ ap (λ (n : ℕ). m * 1000 * n) (sym (pow-add 2 x (150 - suc x)) ∙ ap (λ (n : ℕ). 2 ^ n) (whole x k)))
  where
    m : ℕ
    m = 2 ^ 23 + t

    swapped : (m p q : ℕ) → m * p * 1000 * q ≡ m * 1000 * (p * q)
    swapped m p q = simp (mul_assoc, mul_comm, mul_left_comm)

    whole : (x : ℕ) → suc x ≤ 150 → x + (150 - suc x) ≡ 149
    whole x k = omega arith

-- up to 5 Hz the field is at most 129
pub top_field : (x t : ℕ) → size_by x t ≤ hertz 5 → x ≤ 129
top_field zero t h = lit≤ tt
top_field (suc x) t h = at x (λ k. no (le_trans (mul-le-mul (once t) (pow_mono k)) h))
  where
    once : (t : ℕ) → 2 ^ 23 ≤ 2 ^ 23 + t
    once t = omega arith

    no : 2 ^ 23 * 2 ^ 129 ≤ hertz 5 → ⊥
    no h = not-le_of_lt (lit< tt) h

    at : (x : ℕ) → (129 ≤ x → ⊥) → suc x ≤ 129
    at x p = omega arith

-- and the mHz are at most 5,000
pub mhz_most : (n : ℕ) → n ≤ hertz 5 → nearest_whole (n * 1000) (hertz 1) ≤ most_deviation
unfolding nearest_whole
mhz_most n h = nearest_mono (n * 1000) (hertz 1) (hertz 5 * 1000) (hertz 1) (lit< tt) (lit< tt) (mul-le-mul_right (hertz 1) (mul-le-mul_right 1000 h))

-- the sign stays
pub mhz_signed : (s : Bool) (n : ℕ) → in_mhz (signed s n) ≡ signed s (nearest_whole (n * 1000) (hertz 1))
unfolding in_mhz nearest_whole
mhz_signed false n = refl
mhz_signed true zero = refl
mhz_signed true (suc n) = refl

-- ---- by the bits, without the sign

module _ (b : ℕ) (h : b < 2 ^ 31) where
  field_is : field_of b ≡ b / 2 ^ 23
  field_is = omega arith

  pub size_low : b / 2 ^ 23 < 116 → 0 ≡ nearest_whole (size_of b * 1000) (hertz 1)
  unfolding size_of
  size_low k = sym (low_mhz (field_of b) (digits_of b) (omega arith) (mod-lt b (pow_pos 23)))

  module _ (small : size_of b ≤ hertz 5) where
    pub field_most : b / 2 ^ 23 ≤ 129
    unfolding size_of
    field_most = subst (λ (x : ℕ). x ≤ 129) field_is (top_field (field_of b) (digits_of b) small)

    pub size_high : 116 ≤ b / 2 ^ 23 → nearest_whole ((2 ^ 23 + b % 2 ^ 23) * 1000) (2 ^ (150 - b / 2 ^ 23)) ≡ nearest_whole (size_of b * 1000) (hertz 1)
    unfolding size_of
    size_high k =
        ap (λ (x : ℕ). nearest_whole ((2 ^ 23 + digits_of b) * 1000) (2 ^ (150 - x))) (sym field_is)
        ∙ sym (high_mhz (field_of b) (digits_of b) (omega arith) (le_trans (top_field (field_of b) (digits_of b) small) (lit≤ tt)))

-- 1 << p
pub shifted : (p : ℕ) → p ≤ 34 → 1 * 2 ^ p % 2 ^ 64 ≡ 2 ^ p
shifted p h = ap (λ (n : ℕ). n % 2 ^ 64) (one-mul (2 ^ p)) ∙ mod-eq_of_lt (lt_of_le_of_lt (pow_mono h) (lit< tt))

-- the sign changes no size
pub size_unsigned : (b : ℕ) → size_of (b % 2 ^ 31) ≡ size_of b
unfolding size_of
size_unsigned b = λ i. size_by (field b i) (digits b i)
  where
    field : (b : ℕ) → field_of (b % 2 ^ 31) ≡ field_of b
    field b = omega arith

    digits : (b : ℕ) → digits_of (b % 2 ^ 31) ≡ digits_of b
    digits b = omega arith

-- a number from -B to B is B in size at most
pub size_within : (s : Bool) (n B : ℕ) → le_z (neg_ℤ (pos B)) (signed s n) ≡ true → le_z (signed s n) (pos B) ≡ true → n ≤ B
size_within true n B h k = omega (arith, flags, neg_nat (pos B), neg_nat (pos n))
size_within false n B h k = omega (arith, flags)
