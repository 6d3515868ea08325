-- The machine's quotient toward zero, of v or of -1 - v, gives the quotient rounded down.
use Rattle.std.proofs.Common.{◌≡◌, ℕ, true, false, ◌-ℤ◌, ℤ, pos, negsuc, w32, SFits}
use Rattle.std.specs.Int.Signed.{le_z, quot_z}
use Rattle.power.specs.Inward.{upper_kw}
use Rattle.numbers.proofs.Read.{is, carry, through}
use Rattle.numbers.proofs.Test.{tests}
use Rattle.power.proofs.Part.{per_most}
use Rattle.power.proofs.Round.{upper_above, upper_below, upper_far}
use Rattle.power.proofs.grains.Grains.upper_kw.Goals as goal

-- the quotient fits where the limit is 0 or above, and below it
module _ (v : ℤ) (per : ℕ) (f : SFits w32 (upper_kw per v)) where
  above : le_z (pos 0) v ≡ true → SFits w32 (quot_z v (pos per))
  above t = rw (upper_above per v t) f

  below : le_z (pos 0) v ≡ false → SFits w32 (negsuc 0 -ℤ quot_z (negsuc 0 -ℤ v) (pos per))
  below t = rw (upper_below per v t) f

pub overflow_cast-result : goal.overflow_cast-result
overflow_cast-result c =
    let m = per_most _ c.args.per.divides in
    let t : le_z (pos 0) c.args.self.0 ≡ true = search tests in
    let h = upper_far _ c.args.per.divides _ c.requires in
    carry (above _ _ c.requires t) (search is depth 16)

pub overflow_cast-result-else-v-ge0 : goal.overflow_cast-result-else-v-ge0
overflow_cast-result-else-v-ge0 c =
    let m = per_most _ c.args.per.divides in
    let t : le_z (pos 0) c.args.self.0 ≡ false = search tests in
    let h = upper_far _ c.args.per.divides _ c.requires in
    carry (below _ _ c.requires t) (search is depth 16)

pub returns-then-v-ge0 : goal.returns-then-v-ge0
returns-then-v-ge0 c =
    let m = per_most _ c.args.per.divides in
    let t : le_z (pos 0) c.args.self.0 ≡ true = search tests in
    let h = upper_far _ c.args.per.divides _ c.requires in
    let f = above _ _ c.requires t in
    through (upper_above _ _ t) (search is depth 16)

pub returns-else-v-ge0 : goal.returns-else-v-ge0
returns-else-v-ge0 c =
    let m = per_most _ c.args.per.divides in
    let t : le_z (pos 0) c.args.self.0 ≡ false = search tests in
    let h = upper_far _ c.args.per.divides _ c.requires in
    let f = below _ _ c.requires t in
    through (upper_below _ _ t) (search is depth 16)
