-- The bits of a NaN are those above an infinity's.
use Rattle.std.proofs.Common.{◌≡◌, true, refl, sym, ◌∙◌, arith, subst, T, ◌%◌, ◌^◌, lt-ltb}
use Rattle.std.proofs.lemmas.Float.{not_nan_f32_bits}
use lib.Ieee.{Float, nan, inf, fin, binary32, of_bits, is_nan, div}
use lib.Ieee.Bits.{nan_bits_is, nan_bits_above}
use Rattle.meters.proofs.binary32.of_bits.Goals as goal

only_nan : (x : Float) → is_nan x ≡ true → nan ≡ x
unfolding is_nan
only_nan nan h = refl
only_nan (inf s) h = absurd (subst T (sym h) tt)
only_nan (fin s m e) h = absurd (subst T (sym h) tt)

nought-by-nought : div binary32 (of_bits binary32 0) (of_bits binary32 0) ≡ nan
unfolding div of_bits
nought-by-nought = refl

pub float_from_bits-result : goal.float_from_bits-result
float_from_bits-result c = not_nan_f32_bits c.args.bits (omega arith)

pub returns-else-bits-le-INFINITY : goal.returns-else-bits-le-INFINITY
returns-else-bits-le-INFINITY c =
    let b = c.args.bits in
    nought-by-nought ∙ only_nan (of_bits binary32 b) (sym (nan_bits_is binary32 b) ∙ nan_bits_above binary32 b ∙ lt-ltb 2139095040 (b % 2 ^ 31) (omega arith))
