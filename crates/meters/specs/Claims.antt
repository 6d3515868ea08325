-- What is claimed of meters. The proof is `claims` of proofs/Claims.antt. `T (fits binary32 x)` says that x is a value of an f32, as is every f32 that
-- a program has.
use Rattle.std.specs.Prelude.{◌≡◌, ◌↔◌, true, false, List, [], ◌∷◌, ◌++◌, ℕ, ◌*◌, ◌%◌, ◌^◌, ◌≤◌, T, ℤ, pos, neg_ℤ, nat_abs, ◌-ℤ◌, ◌*ℤ◌, length, take, ◌≤ℤ◌, ◌<ℤ◌, Float}
use Rattle.std.specs.Float.{binary32}
use Rattle.std.specs.Float.Ieee.{of_bits, fits}
use Rattle.std.specs.Float.Ieee.Exact.{HasValue}
use Rattle.std.specs.Float.Ieee.Scale as scale
use Rattle.numbers.specs.Bounds.{outside}
use Rattle.power.specs.Units.{most_deviation}
use Rattle.meters.specs.declared.Reading.TheVariants.{Frequency, Deviation}
use Rattle.meters.specs.declared.Meter.{Meter}
use Rattle.meters.specs.Binary32.{bits_of, is_negative, size_of, finite, exact_bits, exact, hertz, in_mhz}
use Rattle.meters.specs.Meters.{fair_reading, usable, any_usable, counting, exact_deviation, most_meters, Said, deviation, refused, said_of, said_at, bits50, less_fifty}

-- ---- the exact value by the bits is the number that the language gives an f32: `fin s m e` is m × 2 ^ e, negative where s holds

pub record Valued : Type 0 where
  pub is_finite : (x : Float) → T (fits binary32 x) → finite x ≡ scale.finite x
  -- HasValue x s n d: x is finite, has the sign s and is n / d in size
  pub value : (x : Float) → T (fits binary32 x) → finite x ≡ true → HasValue x (is_negative (bits_of x)) (size_of (bits_of x)) (2 ^ 149)

-- ---- "subtracting 50 loses nothing anywhere in that range, and this is to be shown"

-- the bits of 45.0 and of 55.0
abbrev pub bits45 : ℕ
bits45 = 0x4234_0000

abbrev pub bits55 : ℕ
bits55 = 0x425c_0000

-- how far the bits b are from those of 50.0, in 2 ^ 131 steps each, which is 2 ^ -18 Hz
abbrev pub distance : ℕ → ℤ
distance b = (pos b -ℤ pos bits50) *ℤ pos (2 ^ 131)

pub record Lossless : Type 0 where
  -- every f32 from 45 to 55: the machine's f - 50.0 is an f32, finite and exact
  pub subtracted : (f : Float) → T (fits binary32 f) → fair_reading (Frequency f) ≡ true → T (fits binary32 (less_fifty f)) × (finite (less_fifty f) ≡ true) × (exact (less_fifty f) ≡ exact f -ℤ pos (hertz 50))
  -- over the bits as whole numbers: the numbers from 45 to 55 are those with the bits from 45.0's to 55.0's
  pub in_range : (f : Float) → T (fits binary32 f) → (fair_reading (Frequency f) ≡ true) ↔ ((bits45 ≤ bits_of f) × (bits_of f ≤ bits55))
  -- each of them is 50 Hz and its bits' distance from those of 50.0, and this distance is what the machine's difference holds
  pub by_bits : (b : ℕ) → bits45 ≤ b → b ≤ bits55 → exact_bits b -ℤ pos (hertz 50) ≡ distance b
  pub difference : (b : ℕ) → bits45 ≤ b → b ≤ bits55 → exact (less_fifty (of_bits binary32 b)) ≡ distance b
  -- so a frequency and the deviation f - 50 give the same mHz, and both are usable
  pub same_mhz : (f : Float) → T (fits binary32 f) → fair_reading (Frequency f) ≡ true → in_mhz (exact_deviation (Frequency f)) ≡ in_mhz (exact_deviation (Deviation (less_fifty f)))
  pub same_range : (f : Float) → T (fits binary32 f) → fair_reading (Frequency f) ≡ true → fair_reading (Deviation (less_fifty f)) ≡ true

-- ---- "whole mHz, the nearest, ties to the even one"

-- how far z steps and n mHz are apart, in thousandths of a step
abbrev pub apart : ℤ → ℤ → ℕ
apart z n = nat_abs (z *ℤ pos 1000 -ℤ n *ℤ pos (hertz 1))

pub record Rounded : Type 0 where
  pub nearest : (z : ℤ) → apart z (in_mhz z) * 2 ≤ hertz 1
  pub even : (z : ℤ) → apart z (in_mhz z) * 2 ≡ hertz 1 → nat_abs (in_mhz z) % 2 ≡ 0

-- ---- "the usable one with the smallest accuracy figure counts, the earlier on a tie"

-- every usable one has a larger figure than m; or none a smaller one
abbrev pub AllLarger : Meter → List Meter → Type 0
AllLarger m [] = Unit
AllLarger m (n ∷ ns) = (usable n ≡ true → exact m.accuracy <ℤ exact n.accuracy) × AllLarger m ns

abbrev pub NoneSmaller : Meter → List Meter → Type 0
NoneSmaller m [] = Unit
NoneSmaller m (n ∷ ns) = (usable n ≡ true → exact m.accuracy ≤ℤ exact n.accuracy) × NoneSmaller m ns

-- m is usable and stands in the list so
pub record Counts (ms : List Meter) (m : Meter) : Type 0 where
  pub earlier : List Meter
  pub later : List Meter
  pub stands : ms ≡ earlier ++ (m ∷ later)
  pub is_usable : usable m ≡ true
  pub all_larger : AllLarger m earlier
  pub none_smaller : NoneSmaller m later

-- ---- the answer

-- refusal 3 of document 01 doesn't apply to the deviation (`deviation_out` of plant/specs/Refusals.antt)
abbrev pub PassesThree : Said → Type 0
PassesThree (deviation z) = outside (neg_ℤ (pos most_deviation)) (pos most_deviation) z ≡ false
PassesThree (refused n) = Unit

pub record Claims : Type 0 where
  pub valued : Valued
  pub lossless : Lossless
  pub rounded : Rounded
  pub counts : (ms : List Meter) → any_usable ms ≡ true → Counts ms (counting ms)
  -- of any places and number, which are all that `choose_counted` can be given; a list is its own places, with its length
  pub passes_three : (places : List Meter) (n : ℕ) → PassesThree (said_at places n)
  -- a list of any number of meters, filled up by any others and cut to four places, with its number
  pub any_number : (ms others : List Meter) → said_at (take most_meters (ms ++ others)) (length ms) ≡ said_of ms
