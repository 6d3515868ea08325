-- Whole mHz are the nearest ones, at a tie the even one. Assumes nothing.
use Rattle.std.proofs.Common.{◌≡◌, sym, ap, ◌∙◌, subst, ◌⊎◌, inl, inr, ℕ, suc, ◌+◌, ◌-◌, ◌*◌, ◌/◌, ◌%◌, ◌≤◌, ◌<◌, le_of_lt, zero-mul, one-mul, add-mul, suc-mul, div-add-mod', mod-lt, eq-zero-or-pos, arith, lit<, ℤ, pos, negsuc, neg_ℤ, nat_abs, ◌-ℤ◌}
use Prim.Native.Nat.{compare, Ordering}
use lib.Ieee.{nearest}
use Rattle.numbers.proofs.Fit.{abs_neg}
use Rattle.numbers.proofs.Parts.{abs_nat, sub_nat, neg_nat, one_nat}
use Rattle.meters.specs.Binary32.{hertz, nearest_whole, in_mhz}
use Rattle.meters.specs.Claims.{apart}
use Rattle.meters.proofs.Round.{Compared, compared, nearest_is}
use Rattle.meters.proofs.Bits.{negated}

-- how far n / d and a whole number c are apart, in dths
abbrev gap : ℕ → ℕ → ℕ → ℕ
gap d n c = (n - c * d) + (c * d - n)

-- at most a half, and a half only to an even one
record Near (d n c : ℕ) : Type 0 where
  close : gap d n c * 2 ≤ d
  half : gap d n c * 2 ≡ d → c % 2 ≡ 0

near : (d n : ℕ) → 0 < d → Near d n (nearest_whole n d)
near d n D = subst (Near d n) (sym (nearest_is n d)) (go (compare (n % d * 2) d) (compared (n % d * 2) d))
  where
    whole : n / d * d + n % d ≡ n
    whole = div-add-mod' n d

    part : n % d < d
    part = mod-lt n D

    down : (n p r : ℕ) → p + r ≡ n → r * 2 < d → ((n - p) + (p - n)) * 2 < d
    down n p r e h = omega arith

    up : (n p r : ℕ) → p + r ≡ n → r < d → d < r * 2 → ((n - (p + d)) + (p + d - n)) * 2 < d
    up n p r e l h = omega arith

    at : (n p r q : ℕ) → p + r ≡ n → r * 2 ≡ d → (q ≡ 0) ⊎ (q ≡ d) → ((n - (p + q)) + (p + q - n)) * 2 ≤ d
    at n p r q e h (inl z) = omega arith
    at n p r q e h (inr z) = omega arith

    last : (q : ℕ) → (q % 2 * d ≡ 0) ⊎ (q % 2 * d ≡ d)
    last q = elim (two q) [ inl z ↦ inl (ap (λ (m : ℕ). m * d) z ∙ zero-mul d) | inr z ↦ inr (ap (λ (m : ℕ). m * d) z ∙ one-mul d) ]
      where
        two : (q : ℕ) → (q % 2 ≡ 0) ⊎ (q % 2 ≡ 1)
        two q = elim (eq-zero-or-pos (q % 2)) [ inl z ↦ inl z | inr z ↦ inr (omega arith) ]

    even : (q : ℕ) → (q + q % 2) % 2 ≡ 0
    even q = omega arith

    no : (a b : ℕ) → a < b → a ≡ b → ⊥
    no a b h e = omega arith

    go : (o : Ordering) → Compared o (n % d * 2) d → Near d n (nearest (n / d) o)
    go Ordering.lt h =
        let l : gap d n (n / d) * 2 < d = down n (n / d * d) (n % d) whole h in
        record { close = le_of_lt l; half = λ e. absurd (no (gap d n (n / d) * 2) d l e) }
    go Ordering.eq h =
        record {
          close = subst (λ (m : ℕ). ((n - m) + (m - n)) * 2 ≤ d) (sym (add-mul (n / d) (n / d % 2) d)) (at n (n / d * d) (n % d) (n / d % 2 * d) whole h (last (n / d)));
          half = λ e. even (n / d);
        }
    go Ordering.gt h =
        let l : gap d n (suc (n / d)) * 2 < d = rw suc-mul (up n (n / d * d) (n % d) whole part h) in
        record { close = le_of_lt l; half = λ e. absurd (no (gap d n (suc (n / d)) * 2) d l e) }

-- apart, by the sizes; the sign changes nothing
diff : (a b : ℕ) → nat_abs (pos a -ℤ pos b) ≡ (a - b) + (b - a)
diff a b = omega (arith, abs_nat (pos a -ℤ pos b), sub_nat (pos a) (pos b), one_nat (pos a -ℤ pos b))

diff_neg : (a b : ℕ) → nat_abs (neg_ℤ (pos a) -ℤ neg_ℤ (pos b)) ≡ (a - b) + (b - a)
diff_neg a b = omega (arith, abs_nat (neg_ℤ (pos a) -ℤ neg_ℤ (pos b)), sub_nat (neg_ℤ (pos a)) (neg_ℤ (pos b)), one_nat (neg_ℤ (pos a) -ℤ neg_ℤ (pos b)), neg_nat (pos a), neg_nat (pos b))

apart_pos : (n : ℕ) → apart (pos n) (in_mhz (pos n)) ≡ gap (hertz 1) (n * 1000) (nearest_whole (n * 1000) (hertz 1))
unfolding in_mhz
apart_pos n = diff (n * 1000) (nearest_whole (n * 1000) (hertz 1) * hertz 1)

apart_neg : (n : ℕ) → apart (negsuc n) (in_mhz (negsuc n)) ≡ gap (hertz 1) (suc n * 1000) (nearest_whole (suc n * 1000) (hertz 1))
unfolding in_mhz
apart_neg n =
    let c = nearest_whole (suc n * 1000) (hertz 1) in
    ap (λ (z : ℤ). nat_abs (neg_ℤ (pos (suc n * 1000)) -ℤ z)) (negated c (hertz 1)) ∙ diff_neg (suc n * 1000) (c * hertz 1)

pub rounded_nearest : (z : ℤ) → apart z (in_mhz z) * 2 ≤ hertz 1
rounded_nearest (pos n) = rw apart_pos (near (hertz 1) (n * 1000) (lit< tt)).close
rounded_nearest (negsuc n) = rw apart_neg (near (hertz 1) (suc n * 1000) (lit< tt)).close

pub rounded_even : (z : ℤ) → apart z (in_mhz z) * 2 ≡ hertz 1 → nat_abs (in_mhz z) % 2 ≡ 0
unfolding in_mhz
rounded_even (pos n) e = (near (hertz 1) (n * 1000) (lit< tt)).half (ap (λ (m : ℕ). m * 2) (sym (apart_pos n)) ∙ e)
rounded_even (negsuc n) e = ap (λ (m : ℕ). m % 2) (abs_neg (pos (nearest_whole (suc n * 1000) (hertz 1)))) ∙ (near (hertz 1) (suc n * 1000) (lit< tt)).half (ap (λ (m : ℕ). m * 2) (sym (apart_neg n)) ∙ e)
