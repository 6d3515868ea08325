-- The place where a number last stood. Assumes nothing.
use Rattle.std.proofs.Common.{◌≡◌, ℕ, zero, suc, ◌+◌, ◌-◌, ◌≤◌, ltb, Bool, true, false, cond, List, [], length, ℤ, pos, Option, Some, None, is_eq, int_cmp, refl, sym, ap, ◌∙◌, arith, not, ltb-false}
use Rattle.std.specs.List.{position_or_len}
use Rattle.std.specs.Option.{unwrap_or}
use Rattle.std.proofs.lemmas.List.Recursion.{is_position_or_len}
use Rattle.std.proofs.lemmas.List.Sums.{prefix_len-le-length}
use Rattle.numbers.proofs.Compared.{cmp_eq}
use Rattle.power.specs.declared.kilowatts.Kw.{Kw}
use Rattle.power.specs.Past.{newest}
use Rattle.afrr.specs.Band.{ago}
use Rattle.afrr.specs.State.{place_of}
use Rattle.afrr.proofs.Windows.{ago_none}

-- a past with no second has zeros at every place
pub place_none : (a b : ℕ) → place_of (pos 0) (ago a b []) ≡ 0
unfolding place_of newest
place_none a b = ap (place_of (pos 0)) (ago_none a b) ∙ go (b - (a - 1))
  where
    go : (n : ℕ) → place_of (pos 0) (newest n []) ≡ 0
    go zero = refl
    go (suc n) = refl

-- as the library's `position` finds it
module _ (v : ℤ) (l : List Kw) where
  abbrev pub test : Kw → Bool
  test k = is_eq (int_cmp k.0 v)

  abbrev pub first : ℕ
  first = position_or_len test l

  first_is : place_of v l ≡ first
  unfolding place_of
  first_is =
      is_position_or_len (place_of v) test refl
      (λ k ks. let e : suc (place_of v ks) ≡ 1 + place_of v ks = omega arith in λ i. cond (sym (cmp_eq k.0 v) i) 0 (e i))
      l

  pub found : (r : Option ℕ) → r ≡ cond (ltb first (length l)) (Some first) None → unwrap_or r (length l) ≡ place_of v l
  found r e = ap (λ (o : Option ℕ). unwrap_or o (length l)) e ∙ go (ltb first (length l)) refl ∙ sym first_is
    where
      go : (t : Bool) → ltb first (length l) ≡ t → unwrap_or (cond t (Some first) None) (length l) ≡ first
      go true d = refl
      go false d =
          let most : first ≤ length l = prefix_len-le-length (λ (k : Kw). not (test k)) l in
          omega (arith, ltb-false first (length l) d)
