-- What a derived comparison of signed numbers answers. Assumes nothing.
use Rattle.std.specs.Int.Signed.{lt_z, le_z}
use Rattle.std.proofs.Common.{Less, Equal, Greater, is_lt, is_le, is_eq, int_cmp, ◌≡◌, refl, sym, ◌∙◌, Bool, true, false, cond, ◌&&◌, arith, ℤ}
use Rattle.numbers.proofs.Test.{flags}

module _ (a b : ℤ) where
  pub cmp_lt : is_lt (int_cmp a b) ≡ lt_z a b
  cmp_lt = go (lt_z a b) (lt_z b a)
    where
      go : (t u : Bool) → is_lt (cond t Less (cond u Greater Equal)) ≡ t
      go true u = refl
      go false true = refl
      go false false = refl

  pub cmp_le : is_le (int_cmp a b) ≡ le_z a b
  cmp_le = go (lt_z a b) (lt_z b a) (le_z a b) refl refl refl
    where
      go : (t u v : Bool) → lt_z a b ≡ t → lt_z b a ≡ u → le_z a b ≡ v → is_le (cond t Less (cond u Greater Equal)) ≡ v
      go true u true d e f = refl
      go true u false d e f = absurd (omega (arith, flags))
      go false true true d e f = absurd (omega (arith, flags))
      go false true false d e f = refl
      go false false true d e f = refl
      go false false false d e f = absurd (omega (arith, flags))

  pub cmp_eq : is_eq (int_cmp a b) ≡ (le_z a b && le_z b a)
  cmp_eq = go (lt_z a b) (lt_z b a) (le_z a b) (le_z b a) refl refl refl refl
    where
      go :
          (t u v w : Bool) →
          lt_z a b ≡ t →
          lt_z b a ≡ u →
          le_z a b ≡ v →
          le_z b a ≡ w →
          is_eq (cond t Less (cond u Greater Equal)) ≡ (v && w)
      go true u true true d e f g = absurd (omega (arith, flags))
      go true u true false d e f g = refl
      go true u false w d e f g = refl
      go false true true w d e f g = absurd (omega (arith, flags))
      go false true false w d e f g = refl
      go false false true true d e f g = refl
      go false false true false d e f g = absurd (omega (arith, flags))
      go false false false w d e f g = absurd (omega (arith, flags))

  -- what a test in the code says of the definition that it meets
  pub lt_told : {r t : Bool} → r ≡ is_lt (int_cmp a b) → r ≡ t → lt_z a b ≡ t
  lt_told e f = sym cmp_lt ∙ sym e ∙ f

  pub le_told : {r t : Bool} → r ≡ is_le (int_cmp a b) → r ≡ t → le_z a b ≡ t
  le_told e f = sym cmp_le ∙ sym e ∙ f

  pub eq_told : {r t : Bool} → r ≡ is_eq (int_cmp a b) → r ≡ t → (le_z a b && le_z b a) ≡ t
  eq_told e f = sym cmp_eq ∙ sym e ∙ f
