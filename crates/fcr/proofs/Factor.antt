-- W5's cases, age by age, are what the formula gives at 15 seconds. Assumes nothing.
use Rattle.std.proofs.Common.{◌≡◌, refl, ◌∙◌, Bool, true, false, ◌&&◌, List, [], ◌∷◌, ℕ, ◌*◌, ◌/◌, ◌≤◌, arith, leb, ltb, eqb, lit<, leb-true, leb-false, eqb-true, ltb-true, ne_eqb}
use Rattle.numbers.proofs.Rules.{both_true}
use Rattle.sheet.specs.declared.Sheet.{Sheet}
use Rattle.sheet.specs.Sheet.{first_figures}
use Rattle.fcr.specs.Factor.{figure61, figures_time, figures_per_kw, case_of, weight_factor}
use Rattle.fcr.specs.State.{most_age, kept, time_parts}
use Rattle.fcr.proofs.Each.{each}
use Rattle.fcr.proofs.Parts.{parts_over}

-- ---- past the last age

abbrev below : ℕ → List (ℕ × ℕ) → Bool
below n [] = true
below n (c ∷ cs) = ltb c.0 n && below n cs

none : (a n : ℕ) (cs : List (ℕ × ℕ)) → below n cs ≡ true → n ≤ a → case_of a cs ≡ 0
none a n [] e h = refl
none a n (c ∷ cs) e h =
    let b = both_true (ltb c.0 n) (below n cs) e in
    rw (ne_eqb a c.0 (λ q. omega (arith, ltb-true c.0 n b.0))) (none a n cs b.1 h)

older : (a : ℕ) → kept ≤ a → weight_factor a ≡ 0
unfolding weight_factor
older a h = none a kept figure61 refl h

-- ---- at every age

-- the 540ths of a thirtieth
abbrev pub per_part : ℕ
per_part = figures_per_kw / (2 * figures_time)

by_first : (a : ℕ) → weight_factor a ≡ time_parts first_figures a * per_part
unfolding weight_factor first_figures
by_first a = go (leb a most_age) refl
  where
    go : (t : Bool) → leb a most_age ≡ t → weight_factor a ≡ time_parts first_figures a * per_part
    go true e =
        eqb-true (weight_factor a) (time_parts first_figures a * per_part)
        (each kept (λ (k : ℕ). eqb (weight_factor k) (time_parts first_figures k * per_part)) refl a (omega (arith, leb-true a most_age e)))
    go false e =
        let h = leb-false a most_age e in
        let z = parts_over first_figures (lit< tt) a (omega arith) in
        omega (arith, older a (omega arith))

pub by_parts : (sh : Sheet) → sh.fcr_reaction ≡ figures_time → (a : ℕ) → weight_factor a ≡ time_parts sh a * per_part
unfolding first_figures
by_parts sh e a = by_first a ∙ rw e
