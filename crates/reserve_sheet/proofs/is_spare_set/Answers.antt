-- The slices are compared byte by byte.
use Rattle.std.proofs.Common.{◌≡◌, refl, sym, ◌∙◌, Bool, true, false, not, ◌&&◌, ◌||◌, List, [], ◌∷◌, ℕ, ◌+◌, ◌*◌, ◌<◌, eqb, lit<, length, get_or, take, drop, arith, drop-cons}
use lib.Pointwise.{pointwise}
use borrow.Author.Tests.{eq-eqb, ne_eqb, eqb-true, eqb-false}
use Rattle.numbers.proofs.Test.{or_first, or_second}
use Rattle.codec.specs.Little.{u32_at}
use Rattle.reserve_sheet.specs.Form.{sheet_size, spare_set}
use Rattle.reserve_sheet.proofs.is_spare_set.Goals as goal

-- a number of four bytes is 0 where each of them is
four : (a b c d : ℕ) → eqb (a + b * 256 + c * 65536 + d * 16777216) 0 ≡ (eqb a 0 && (eqb b 0 && (eqb c 0 && (eqb d 0 && true))))
four a b c d = go (eqb a 0) (eqb b 0) (eqb c 0) (eqb d 0) refl refl refl refl
  where
    go :
        (p q r t : Bool) →
        eqb a 0 ≡ p →
        eqb b 0 ≡ q →
        eqb c 0 ≡ r →
        eqb d 0 ≡ t →
        eqb (a + b * 256 + c * 65536 + d * 16777216) 0 ≡ (p && (q && (r && (t && true))))
    go true true true true e f g h = eq-eqb _ 0 (omega (arith, eqb-true a 0 e, eqb-true b 0 f, eqb-true c 0 g, eqb-true d 0 h))
    go true true true false e f g h = ne_eqb _ 0 (λ z. omega (arith, z, eqb-false d 0 h))
    go true true false t e f g h = ne_eqb _ 0 (λ z. omega (arith, z, eqb-false c 0 g))
    go true false r t e f g h = ne_eqb _ 0 (λ z. omega (arith, z, eqb-false b 0 f))
    go false q r t e f g h = ne_eqb _ 0 (λ z. omega (arith, z, eqb-false a 0 e))

regrouped : (a b c u : Bool) → (not a || (not b || (not c || not u))) ≡ (not (a && (b && (c && true))) || not u)
regrouped true true true u = refl
regrouped true true false u = refl
regrouped true false c u = refl
regrouped false b c u = refl

-- they stand from byte 5 on and from byte 12 on
spare_is : (s : List ℕ) → length s ≡ sheet_size → spare_set s ≡ (not (pointwise eqb (take 3 (drop 5 s)) (0 ∷ 0 ∷ 0 ∷ [])) || not (pointwise eqb (take 4 (drop 12 s)) (0 ∷ 0 ∷ 0 ∷ 0 ∷ [])))
unfolding spare_set
spare_is s h =
    let inside : (i : ℕ) → i < 16 → i < length s = λ i k. omega (arith, h) in
    regrouped (eqb (get_or s 5 0) 0) (eqb (get_or s 6 0) 0) (eqb (get_or s 7 0) 0) (eqb (u32_at s 12) 0)
    ∙ rw (
      four (get_or s 12 0) (get_or s 13 0) (get_or s 14 0) (get_or s 15 0),
      drop-cons s 5 0 (inside 5 (lit< tt)),
      drop-cons s 6 0 (inside 6 (lit< tt)),
      drop-cons s 7 0 (inside 7 (lit< tt)),
      drop-cons s 12 0 (inside 12 (lit< tt)),
      drop-cons s 13 0 (inside 13 (lit< tt)),
      drop-cons s 14 0 (inside 14 (lit< tt)),
      drop-cons s 15 0 (inside 15 (lit< tt)),
    )

pub returns-then-ne : goal.returns-then-ne
returns-then-ne c = rw (spare_is c.args.s.now c.told-s) (or_first _ _ _ c.ne.ensures (sym c.ne.ensures ∙ c.if-ne.true))

pub returns-else-ne : goal.returns-else-ne
returns-else-ne c = rw (spare_is c.args.s.now c.told-s) (or_second _ _ _ (sym c.ne.ensures ∙ c.if-ne.false) c.ne-else-ne.ensures)
