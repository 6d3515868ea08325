-- The size in whole mHz, with the sign of the number.
use Rattle.std.proofs.Common.{◌≡◌, ℕ, ◌*◌, ◌%◌, ◌^◌, ◌≤◌, ◌<◌, Bool, true, false, ◌&&◌, ℤ, pos, neg_ℤ, arith, sym, ap, ◌∙◌, subst, mod-lt, pow_pos, le-leb}
use Rattle.std.specs.Int.Signed.{le_z}
use lib.Ieee.{Float}
use borrow.Author.Tests.{lt-leb}
use Rattle.std.proofs.lemmas.Float.{T_from_true}
use Rattle.numbers.proofs.Read.{same}
use Rattle.numbers.proofs.Rules.{both_true}
use Rattle.meters.specs.declared.Reading.TheVariants.{Deviation}
use Rattle.meters.specs.Binary32.{bits_of, is_negative, size_of, signed, exact_bits, finite, exact, hertz, nearest_whole, in_mhz}
use Rattle.meters.specs.Meters.{between, fair_reading}
use Rattle.meters.proofs.Value.{finite_no_nan}
use Rattle.meters.proofs.Round.{size_unsigned, size_within, mhz_signed}
use Rattle.meters.proofs.deviation.in_mhz.Goals as goal

module _ (d : Float) (fair : fair_reading (Deviation d) ≡ true) where
  parts : (finite d ≡ true) × (le_z (neg_ℤ (pos (hertz 5))) (exact d) ≡ true) × (le_z (exact d) (pos (hertz 5)) ≡ true)
  unfolding fair_reading between
  parts =
      let p = both_true (finite d) (le_z (neg_ℤ (pos (hertz 5))) (exact d) && le_z (exact d) (pos (hertz 5))) fair in
      let q = both_true (le_z (neg_ℤ (pos (hertz 5))) (exact d)) (le_z (exact d) (pos (hertz 5))) p.1 in
      (p.0, q.0, q.1)

  size_small : size_of (bits_of d) ≤ hertz 5
  unfolding exact_bits
  size_small = size_within (is_negative (bits_of d)) (size_of (bits_of d)) (hertz 5) parts.1 parts.2

-- the answer z, from the size r in mHz
met :
    (d : Float) (t : Bool) (r : ℕ) (z : ℤ) →
    is_negative (bits_of d) ≡ t →
    r ≡ nearest_whole (size_of (bits_of d % 2 ^ 31) * 1000) (hertz 1) →
    z ≡ signed t r →
    z ≡ in_mhz (exact d)
unfolding exact_bits
met d t r z n e k =
    let b = bits_of d in
    k
    ∙ ap (λ (u : Bool). signed u r) (sym n)
    ∙ ap (signed (is_negative b)) (e ∙ ap (λ (n : ℕ). nearest_whole (n * 1000) (hertz 1)) (size_unsigned b))
    ∙ sym (mhz_signed (is_negative b) (size_of b))

pub float_to_bits-bits : goal.float_to_bits-bits
float_to_bits-bits c = finite_no_nan c.args.d (T_from_true _ c.well_formed.0.1) (parts c.args.d c.requires).0

pub size_in_mhz-size-requires : goal.size_in_mhz-size-requires
size_in_mhz-size-requires c =
    let b = bits_of c.args.d in
    (mod-lt b (pow_pos 31), subst (λ (n : ℕ). n ≤ hertz 5) (sym (size_unsigned b)) (size_small c.args.d c.requires))

pub returns-then-bits-lt-SIGN : goal.returns-then-bits-lt-SIGN
returns-then-bits-lt-SIGN c =
    let r = c.size_in_mhz-size.result in
    let m : r < 5001 = omega arith in
    met c.args.d false r _ (lt-leb (2 ^ 31) (bits_of c.args.d) c.if-bits-lt-SIGN.true) c.size_in_mhz-size.ensures.0 (search same depth 16)

pub returns-else-bits-lt-SIGN : goal.returns-else-bits-lt-SIGN
returns-else-bits-lt-SIGN c =
    let r = c.size_in_mhz-size.result in
    let m : r < 5001 = omega arith in
    met c.args.d true r _ (le-leb (2 ^ 31) (bits_of c.args.d) c.if-bits-lt-SIGN.false) c.size_in_mhz-size.ensures.0 (search same depth 16)
