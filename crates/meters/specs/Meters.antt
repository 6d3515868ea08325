-- Choosing a frequency meter (02, W6).
use Rattle.std.specs.Prelude.{ℕ, zero, suc, ◌≡◌, Bool, true, false, not, cond, ◌&&◌, ◌||◌, List, [], ◌∷◌, eqb, ltb, ℤ, pos, neg_ℤ, ◌-ℤ◌, length, take, Float, Result, Ok, Err}
use Rattle.std.specs.Int.Signed.{le_z, lt_z}
use Rattle.std.specs.Float.{binary32}
use Rattle.std.specs.Float.Ieee.{of_bits, sub}
use Rattle.refusals.specs.declared.Refusal.{Refusal}
use Rattle.refusals.specs.Refusals.{number_of}
use Rattle.numbers.specs.Rules.{Rule, refuse, first}
use Rattle.power.specs.declared.frequency.Millihertz.{Millihertz}
use Rattle.meters.specs.declared.Reading.{Reading}
use Rattle.meters.specs.declared.Reading.TheVariants.{Frequency, Deviation, Failed}
use Rattle.meters.specs.declared.Meter.{Meter}
use Rattle.meters.specs.Binary32.{finite, exact, hertz, in_mhz}

-- ---- "Usable means: not failed, finite, accuracy finite and above 0, frequency from 45 to 55 or deviation from -5 to 5."

unfoldable pub between : ℤ → ℤ → Float → Bool
between low high x = finite x && (le_z low (exact x) && le_z (exact x) high)

unfoldable pub fair_reading : Reading → Bool
fair_reading (Frequency f) = between (pos (hertz 45)) (pos (hertz 55)) f
fair_reading (Deviation d) = between (neg_ℤ (pos (hertz 5))) (pos (hertz 5)) d
fair_reading Failed = false

unfoldable pub fair_accuracy : Float → Bool
fair_accuracy a = finite a && lt_z (pos 0) (exact a)

unfoldable pub usable : Meter → Bool
usable m = fair_reading m.reading && fair_accuracy m.accuracy

abbrev pub any_usable : List Meter → Bool
any_usable [] = false
any_usable (m ∷ ms) = usable m || any_usable ms

-- ---- "the usable one with the smallest accuracy figure counts, the earlier on a tie"

unfoldable pub smaller : Float → Float → Bool
smaller a b = lt_z (exact a) (exact b)

-- which of two counts
unfoldable pub of_two : Meter → Meter → Meter
of_two earlier later = cond (usable later && (not (usable earlier) || smaller later.accuracy earlier.accuracy)) later earlier

-- which counts of m and those after it
abbrev pub of_more : Meter → List Meter → Meter
of_more m [] = m
of_more m (n ∷ ms) = of_more (of_two m n) ms

abbrev pub failed : Meter
failed = record { reading = Failed; accuracy = of_bits binary32 0 }

-- which counts of a list; a failed one where none is usable
unfoldable pub counting : List Meter → Meter
counting ms = of_more failed ms

-- ---- its deviation, exact, in steps; and in whole mHz

unfoldable pub exact_deviation : Reading → ℤ
exact_deviation (Frequency f) = exact f -ℤ pos (hertz 50)
exact_deviation (Deviation d) = exact d
exact_deviation Failed = pos 0

abbrev pub deviation_of : Meter → ℤ
deviation_of m = in_mhz (exact_deviation m.reading)

-- ---- the answer: "the deviation for its record, or a number"

abbrev pub most_meters : ℕ
most_meters = 4

-- "no meters or more than four"
unfoldable pub count_out : ℕ → Bool
count_out n = eqb n 0 || ltb most_meters n

-- "27 when there are no meters or more than four. 28 when none is usable, after 27.", where there are n and ms are at hand
abbrev pub rules : ℕ → List Meter → List Rule
rules n ms =
    refuse 27 (count_out n)
    ∷ refuse 28 (not (any_usable ms))
    ∷ []

-- a deviation in mHz, or a refusal number
pub data Said : Type 0 where
  deviation : ℤ → Said
  refused : ℕ → Said

abbrev pub said_by : ℕ → ℤ → Said
said_by zero z = deviation z
said_by (suc n) z = refused (suc n)

unfoldable pub said_with : ℕ → List Meter → Said
said_with n ms = said_by (first (rules n ms)) (deviation_of (counting ms))

-- the answer to a list of any number of meters; a failed one is one of them
abbrev pub said_of : List Meter → Said
said_of ms = said_with (length ms) ms

-- the same from four places and the number of meters, as `choose_counted` has them: more than four get 27, whatever they are
abbrev pub said_at : List Meter → ℕ → Said
said_at places n = said_with n (take n places)

-- what each case of the answer says
abbrev pub says : Result Millihertz Refusal → Said
says (Ok f) = deviation f.0
says (Err e) = refused (number_of e)

-- ---- the machine's subtraction

-- the bits of 50.0, and f - 50.0 as the machine has it
abbrev pub bits50 : ℕ
bits50 = 0x4248_0000

abbrev pub less_fifty : Float → Float
less_fifty f = sub binary32 f (of_bits binary32 bits50)

-- a deviation in Hz within its range, of z steps
pub record IsDeviation (z : ℤ) (r : Float) : Type 0 where
  pub fair : fair_reading (Deviation r) ≡ true
  pub is : exact r ≡ z

-- f - 50.0 with its exact case: "For a frequency, subtracting 50 loses nothing anywhere in that range"
pub record LessFifty (f r : Float) : Type 0 where
  pub is : r ≡ less_fifty f
  pub exact_case : fair_reading (Frequency f) ≡ true → IsDeviation (exact_deviation (Frequency f)) r
