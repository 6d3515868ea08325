-- The meter that counts is the first of those with the smallest figure. Assumes nothing.
use Rattle.std.proofs.Common.{◌≡◌, refl, sym, ap, ◌∙◌, subst, ◌⊎◌, inl, inr, Bool, true, false, not, ◌||◌, List, [], ◌∷◌, arith, T, ℤ, ◌≤ℤ◌, ◌<ℤ◌}
use lib.Ieee.{Float}
use lib.Signed.{≤ℤ_refl, lt_z_yes, lt_z_no}
use Rattle.numbers.proofs.Parts.{reads, shows}
use Rattle.meters.specs.declared.Meter.{Meter}
use Rattle.meters.specs.Binary32.{exact}
use Rattle.meters.specs.Meters.{usable, smaller, of_two, of_more, failed, counting, any_usable}
use Rattle.meters.specs.Claims.{NoneSmaller, Counts}
use Rattle.meters.proofs.Choice.{earlier_alone, later_alone, later_smaller, earlier_at_least, failed_unusable}

-- a later one that is usable and has a smaller figure than m counts
abbrev Overtaken : Meter → List Meter → Meter → Type 0
Overtaken m ms x = Counts ms x × (exact x.accuracy <ℤ exact m.accuracy)

-- m stays, or is overtaken
Settled : Meter → List Meter → Type 0
Settled m ms = ((of_more m ms ≡ m) × NoneSmaller m ms) ⊎ Overtaken m ms (of_more m ms)

-- ---- orders

lt_le : {a b : ℤ} → a <ℤ b → a ≤ℤ b
lt_le {a} {b} h = omega (arith, reads, shows)

lt_le_lt : {a b c : ℤ} → a <ℤ b → b ≤ℤ c → a <ℤ c
lt_le_lt {a} {b} {c} h k = omega (arith, reads, shows)

le_lt_lt : {a b c : ℤ} → a ≤ℤ b → b <ℤ c → a <ℤ c
le_lt_lt {a} {b} {c} h k = omega (arith, reads, shows)

smaller_yes : (a b : Float) → smaller a b ≡ true → exact a <ℤ exact b
unfolding smaller
smaller_yes a b e = lt_z_yes (subst T (sym e) tt)

smaller_no : (a b : Float) → smaller a b ≡ false → exact b ≤ℤ exact a
unfolding smaller
smaller_no a b e = lt_z_no (subst (λ (t : Bool). T (not t)) (sym e) tt)

-- ---- one meter after the other

module _ (n : Meter) (ms : List Meter) where
  -- one more before the others
  behind : (x : Meter) → Counts ms x → (usable n ≡ true → exact x.accuracy <ℤ exact n.accuracy) → Counts (n ∷ ms) x
  behind x c h =
      record {
        earlier = n ∷ c.earlier;
        later = c.later;
        stands = ap (λ (l : List Meter). n ∷ l) c.stands;
        is_usable = c.is_usable;
        all_larger = (h, c.all_larger);
        none_smaller = c.none_smaller;
      }

  -- a usable one, and what counts of it and those after it
  from_first : usable n ≡ true → Settled n ms → Counts (n ∷ ms) (of_more n ms)
  unfolding Settled
  from_first u (inl s) =
      subst (Counts (n ∷ ms)) (sym s.0)
      (record { earlier = []; later = ms; stands = refl; is_usable = u; all_larger = tt; none_smaller = s.1 })
  from_first u (inr o) = behind (of_more n ms) o.0 (λ v. o.1)

  at_most : Settled n ms → exact (of_more n ms).accuracy ≤ℤ exact n.accuracy
  unfolding Settled
  at_most (inl s) = subst (λ (x : Meter). exact x.accuracy ≤ℤ exact n.accuracy) (sym s.0) (≤ℤ_refl (exact n.accuracy))
  at_most (inr o) = lt_le o.1

  module _ (m : Meter) where
    stays : of_two m n ≡ m → (usable n ≡ true → exact m.accuracy ≤ℤ exact n.accuracy) → Settled m ms → Settled m (n ∷ ms)
    unfolding Settled
    stays e h (inl s) = inl (ap (λ (x : Meter). of_more x ms) e ∙ s.0, (h, s.1))
    stays e h (inr o) =
        inr (subst (λ (x : Meter). Overtaken m (n ∷ ms) (of_more x ms)) (sym e)
        (behind (of_more m ms) o.0 (λ v. lt_le_lt o.1 (h v)), o.1))

    gives_way : of_two m n ≡ n → usable n ≡ true → exact n.accuracy <ℤ exact m.accuracy → Settled n ms → Settled m (n ∷ ms)
    unfolding Settled
    gives_way e u h s =
        inr (subst (λ (x : Meter). Overtaken m (n ∷ ms) (of_more x ms)) (sym e)
        (from_first u s, le_lt_lt (at_most s) h))

settled : (m : Meter) (ms : List Meter) → usable m ≡ true → Settled m ms
unfolding Settled
settled m [] u = inl (refl, tt)
settled m (n ∷ ms) u = go (usable n) (smaller n.accuracy m.accuracy) refl refl (settled m ms u) (settled n ms)
  where
    go :
        (p q : Bool) →
        usable n ≡ p →
        smaller n.accuracy m.accuracy ≡ q →
        Settled m ms →
        (usable n ≡ true → Settled n ms) →
        Settled m (n ∷ ms)
    go false q e f s t = stays n ms m (sym (earlier_alone m n e)) (λ v. absurd (subst T (sym v ∙ e) tt)) s
    go true true e f s t = gives_way n ms m (sym (later_smaller m n e u f)) e (smaller_yes n.accuracy m.accuracy f) (t e)
    go true false e f s t = stays n ms m (sym (earlier_at_least m n e u f)) (λ v. smaller_no n.accuracy m.accuracy f) s

-- from one that is not usable
onward : (m : Meter) (ms : List Meter) → usable m ≡ false → any_usable ms ≡ true → Counts ms (of_more m ms)
onward m [] u a = absurd (subst T (sym a) tt)
onward m (n ∷ ms) u a = go (usable n) refl (onward m ms u)
  where
    go : (p : Bool) → usable n ≡ p → (any_usable ms ≡ true → Counts ms (of_more m ms)) → Counts (n ∷ ms) (of_more (of_two m n) ms)
    go true e f = subst (λ (x : Meter). Counts (n ∷ ms) (of_more x ms)) (later_alone m n e u) (from_first n ms e (settled n ms e))
    go false e f =
        subst (λ (x : Meter). Counts (n ∷ ms) (of_more x ms)) (earlier_alone m n e)
        (behind n ms (of_more m ms) (f (sym (ap (λ (t : Bool). t || any_usable ms) e) ∙ a)) (λ v. absurd (subst T (sym v ∙ e) tt)))

pub counts : (ms : List Meter) → any_usable ms ≡ true → Counts ms (counting ms)
unfolding counting
counts ms a = onward failed ms failed_unusable a
