-- The text of a number by its sign. Assumes nothing.
use Rattle.std.proofs.Common.{◌≡◌, refl, subst, true, false, not-suc-le-zero, ltb-true, T, ℤ, pos, negsuc, nat_abs, ◌++◌}
use Rattle.std.specs.Int.Signed.{lt_z}
use Rattle.line.specs.Text.{ascii, digits, decimal}

pub decimal_below : (z : ℤ) → lt_z z (pos 0) ≡ true → decimal z ≡ ascii "-" ++ digits (nat_abs z)
unfolding decimal
decimal_below (pos n) e = absurd (not-suc-le-zero (ltb-true n 0 e))
decimal_below (negsuc n) e = refl

pub decimal_above : (z : ℤ) → lt_z z (pos 0) ≡ false → decimal z ≡ digits (nat_abs z)
unfolding decimal
decimal_above (pos n) e = refl
decimal_above (negsuc n) e = absurd (subst T e tt)
