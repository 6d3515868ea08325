-- A record of meters, 64 bytes: byte 0 is their number, then come 9 bytes for each of the first seven: form, bits of the value, bits of the accuracy.
-- No document has this form (DECISIONS, "Frequency meters").
use Rattle.std.specs.Prelude.{ℕ, ◌+◌, cond, List, [], ◌∷◌, eqb, length, get_or, Float}
use Rattle.std.specs.Float.{binary32}
use Rattle.std.specs.Float.Ieee.{of_bits}
use Rattle.numbers.specs.Rules.{differ}
use Rattle.codec.specs.Little.{u32_at}
use Rattle.meters.specs.declared.Reading.{Reading}
use Rattle.meters.specs.declared.Reading.TheVariants.{Frequency, Deviation, Failed}
use Rattle.meters.specs.declared.Meter.{Meter}
use Rattle.meters.specs.Meters.{Said, refused, said_at}

abbrev pub record_size : ℕ
record_size = 64

abbrev pub meter_size : ℕ
meter_size = 9

-- form 0 is a frequency, 1 a deviation, any other a failed one
unfoldable pub reading_of : ℕ → Float → Reading
reading_of form x = cond (eqb form 0) (Frequency x) (cond (eqb form 1) (Deviation x) Failed)

-- the meter of the 9 bytes from `at` on, of any bits
unfoldable pub meter_at : List ℕ → ℕ → Meter
meter_at s at =
    record {
      reading = reading_of (get_or s at 0) (of_bits binary32 (u32_at s (at + 1)));
      accuracy = of_bits binary32 (u32_at s (at + 5));
    }

abbrev pub meters_in : List ℕ → List Meter
meters_in s = meter_at s 1 ∷ meter_at s 10 ∷ meter_at s 19 ∷ meter_at s 28 ∷ meter_at s 37 ∷ meter_at s 46 ∷ meter_at s 55 ∷ []

abbrev pub number_in : List ℕ → ℕ
number_in s = get_or s 0 0

-- what is said to a record of any bytes: 12 where it has not 64
unfoldable pub said_in : List ℕ → Said
said_in s = cond (differ (length s) record_size) (refused 12) (said_at (meters_in s) (number_in s))
