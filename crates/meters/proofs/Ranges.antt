-- The code's tests of a reading and of an accuracy are the definitions'. Assumes nothing.
use Rattle.std.proofs.Common.{◌≡◌, refl, sym, ap, ◌∙◌, subst, Bool, true, false, ◌&&◌, T, pos, neg_ℤ}
use Rattle.std.specs.Int.Signed.{le_z, lt_z}
use lib.Ieee.{Float, nan, inf, fin, binary32, of_bits, to_bits, neg, lt, le, fits}
use lib.Ieee.Bits.{of_bits-fits}
use lib.Ieee.Scale as scale
use Rattle.std.specs.Float.{float_is_finite}
use Rattle.meters.specs.Binary32.{finite_bits, size_of, exact_bits, finite, exact, hertz}
use Rattle.meters.specs.Meters.{between, fair_accuracy}
use Rattle.meters.proofs.Value.{finite_is}
use Rattle.meters.proofs.Compare.{lt_is, le_is}

-- ---- between two finite numbers

outside : (lo hi x : Float) → scale.finite lo ≡ true → scale.finite hi ≡ true → scale.finite x ≡ false → (le lo x && le x hi) ≡ false
unfolding le
outside nan hi x h k f = absurd (subst T (sym h) tt)
outside (inf s) hi x h k f = absurd (subst T (sym h) tt)
outside (fin s m e) nan x h k f = absurd (subst T (sym k) tt)
outside (fin s m e) (inf t) x h k f = absurd (subst T (sym k) tt)
outside (fin s m e) (fin t n d) nan h k f = refl
outside (fin s m e) (fin t n d) (inf true) h k f = refl
outside (fin s m e) (fin t n d) (inf false) h k f = refl
outside (fin s m e) (fin t n d) (fin u a c) h k f = absurd (subst T f tt)

module _ (lo hi x : Float) (hlo : T (fits binary32 lo)) (hhi : T (fits binary32 hi)) (hx : T (fits binary32 x)) (flo : finite lo ≡ true) (fhi : finite hi ≡ true) where
  between_is : (le lo x && le x hi) ≡ between (exact lo) (exact hi) x
  unfolding between
  between_is = go (finite x) refl
    where
      go : (t : Bool) → finite x ≡ t → (le lo x && le x hi) ≡ (finite x && (le_z (exact lo) (exact x) && le_z (exact x) (exact hi)))
      go true f =
          (λ i. le_is lo x hlo hx flo f i && le_is x hi hx hhi f fhi i)
          ∙ sym (ap (λ (u : Bool). u && (le_z (exact lo) (exact x) && le_z (exact x) (exact hi))) f)
      go false f =
          outside lo hi x (sym (finite_is lo hlo) ∙ flo) (sym (finite_is hi hhi) ∙ fhi) (sym (finite_is x hx) ∙ f)
          ∙ sym (ap (λ (u : Bool). u && (le_z (exact lo) (exact x) && le_z (exact x) (exact hi))) f)

-- ---- the numbers that the code writes, by their bits

abbrev pub forty_five : Float
forty_five = of_bits binary32 0x4234_0000

abbrev pub fifty_five : Float
fifty_five = of_bits binary32 0x425c_0000

abbrev pub five : Float
five = of_bits binary32 0x40a0_0000

abbrev pub minus_five : Float
minus_five = neg five

module _ (x : Float) (held : T (fits binary32 x)) where
  pub frequency_is : (le forty_five x && le x fifty_five) ≡ between (pos (hertz 45)) (pos (hertz 55)) x
  unfolding of_bits to_bits exact_bits size_of finite_bits
  frequency_is = between_is forty_five fifty_five x (of_bits-fits binary32 0x4234_0000) (of_bits-fits binary32 0x425c_0000) held refl refl

  pub deviation_is : (le minus_five x && le x five) ≡ between (neg_ℤ (pos (hertz 5))) (pos (hertz 5)) x
  unfolding of_bits neg to_bits exact_bits size_of finite_bits
  deviation_is = between_is minus_five five x (of_bits-fits binary32 0xc0a0_0000) (of_bits-fits binary32 0x40a0_0000) held refl refl

-- ---- an accuracy

abbrev pub nought : Float
nought = of_bits binary32 0

same_finite : (x : Float) → float_is_finite x ≡ scale.finite x
unfolding float_is_finite
same_finite nan = refl
same_finite (inf s) = refl
same_finite (fin s m e) = refl

module _ (a : Float) (held : T (fits binary32 a)) where
  pub accuracy_is : fair_accuracy a ≡ (float_is_finite a && lt nought a)
  unfolding fair_accuracy of_bits to_bits exact_bits size_of finite_bits
  accuracy_is = sym (go (finite a) refl)
    where
      go : (t : Bool) → finite a ≡ t → (float_is_finite a && lt nought a) ≡ (finite a && lt_z (pos 0) (exact a))
      go true f = λ i. (same_finite a ∙ sym (finite_is a held)) i && lt_is nought a (of_bits-fits binary32 0) held refl f i
      go false f =
          ap (λ (t : Bool). t && lt nought a) (same_finite a ∙ sym (finite_is a held) ∙ f)
          ∙ sym (ap (λ (t : Bool). t && lt_z (pos 0) (exact a)) f)
