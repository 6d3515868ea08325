-- Values at the edges of what is usable, of rounding and of the answer, so that a fault in definition and code alike is refused. Numbers are
-- written by their bits. The proof is `values` of proofs/Values.antt.
use Rattle.std.specs.Prelude.{ℕ, ◌≡◌, Bool, true, false, [], ◌∷◌, map, ℤ, pos, neg_ℤ, Float}
use Rattle.std.specs.Float.{binary32}
use Rattle.std.specs.Float.Ieee.{of_bits}
use Rattle.meters.specs.declared.Reading.TheVariants.{Frequency, Deviation, Failed}
use Rattle.meters.specs.declared.Meter.{Meter}
use Rattle.meters.specs.Binary32.{exact_bits, in_mhz}
use Rattle.meters.specs.Meters.{fair_reading, fair_accuracy, exact_deviation, deviation, refused, said_of}

abbrev pub number : ℕ → Float
number b = of_bits binary32 b

abbrev pub fair_frequency : ℕ → Bool
fair_frequency b = fair_reading (Frequency (number b))

abbrev pub fair_deviation : ℕ → Bool
fair_deviation b = fair_reading (Deviation (number b))

abbrev pub mhz : ℕ → ℤ
mhz b = in_mhz (exact_bits b)

-- meters, by the bits of the deviation and of the accuracy
abbrev pub meter : ℕ → ℕ → Meter
meter d a = record { reading = Deviation (number d); accuracy = number a }

abbrev pub failing : Meter
failing = record { reading = Failed; accuracy = number 0x3a80_0000 }

-- accuracies: 1 Hz, the binary32 after it, and the smallest above 0
abbrev one : ℕ
one = 0x3f80_0000

abbrev after_one : ℕ
after_one = 0x3f80_0001

abbrev least : ℕ
least = 1

-- deviations of 0.25, -0.25 and 0.5 Hz, and of 8 Hz, which isn't usable
abbrev first : ℕ → Meter
first a = meter 0x3e80_0000 a

abbrev second : ℕ → Meter
second a = meter 0xbe80_0000 a

abbrev third : ℕ → Meter
third a = meter 0x3f00_0000 a

abbrev wild : ℕ → Meter
wild a = meter 0x4100_0000 a

pub record Values : Type 0 where
  -- 45 and 55 Hz, the numbers next to them, -50 Hz, both infinities and two NaNs
  pub frequencies :
      map fair_frequency (0x4234_0000 ∷ 0x425c_0000 ∷ 0x4233_ffff ∷ 0x425c_0001 ∷ 0xc248_0000 ∷ 0x7f80_0000 ∷ 0xff80_0000 ∷ 0x7fc0_0000 ∷ 0xffff_ffff ∷ [])
      ≡ true ∷ true ∷ false ∷ false ∷ false ∷ false ∷ false ∷ false ∷ false ∷ []
  -- 5 and -5 Hz, both zeros, both numbers next to 0, the numbers next to 5 and -5, both infinities and two NaNs
  pub deviations :
      map fair_deviation (0x40a0_0000 ∷ 0xc0a0_0000 ∷ 0 ∷ 0x8000_0000 ∷ 1 ∷ 0x8000_0001 ∷ 0x40a0_0001 ∷ 0xc0a0_0001 ∷ 0x7f80_0000 ∷ 0xff80_0000 ∷ 0x7f80_0001 ∷ 0xffff_ffff ∷ [])
      ≡ true ∷ true ∷ true ∷ true ∷ true ∷ true ∷ false ∷ false ∷ false ∷ false ∷ false ∷ false ∷ []
  pub failed : fair_reading Failed ≡ false
  -- the smallest and the largest number above 0; 0 and -0, the number next below, both infinities and two NaNs
  pub accuracies :
      map (λ (a : ℕ). fair_accuracy (number a)) (1 ∷ 0x7f7f_ffff ∷ 0 ∷ 0x8000_0000 ∷ 0x8000_0001 ∷ 0x7f80_0000 ∷ 0xff80_0000 ∷ 0x7fc0_0000 ∷ 0x7f80_0001 ∷ [])
      ≡ true ∷ true ∷ false ∷ false ∷ false ∷ false ∷ false ∷ false ∷ false ∷ []
  -- 0.0625, 0.1875 and their mirrors: 62.5 and 187.5 mHz
  pub ties : map mhz (0x3d80_0000 ∷ 0x3e40_0000 ∷ 0xbd80_0000 ∷ 0xbe40_0000 ∷ []) ≡ pos 62 ∷ pos 188 ∷ neg_ℤ (pos 62) ∷ neg_ℤ (pos 188) ∷ []
  -- the binary32 next to 0.0005 lies above it, the one before it below; the smallest number above 0, and -0
  pub half : map mhz (0x3a03_126f ∷ 0x3a03_126e ∷ 1 ∷ 0x8000_0000 ∷ []) ≡ pos 1 ∷ pos 0 ∷ pos 0 ∷ pos 0 ∷ []
  -- the ends of both ranges, and 50.0625 Hz
  pub ends : map mhz (0x40a0_0000 ∷ 0xc0a0_0000 ∷ []) ≡ pos 5000 ∷ neg_ℤ (pos 5000) ∷ []
  pub from_50 :
      map (λ (f : ℕ). in_mhz (exact_deviation (Frequency (number f)))) (0x4234_0000 ∷ 0x425c_0000 ∷ 0x4248_4000 ∷ [])
      ≡ neg_ℤ (pos 5000) ∷ pos 5000 ∷ pos 62 ∷ []
  -- the smallest figure, wherever it stands; on a tie the earlier
  pub smallest : said_of (first after_one ∷ second one ∷ third after_one ∷ []) ≡ deviation (neg_ℤ (pos 250))
  pub smallest_last : said_of (first one ∷ second one ∷ third least ∷ []) ≡ deviation (pos 500)
  pub tie : said_of (second one ∷ first one ∷ []) ≡ deviation (neg_ℤ (pos 250))
  pub later_tie : said_of (third after_one ∷ first one ∷ second one ∷ []) ≡ deviation (pos 250)
  -- one that isn't usable doesn't count, however small its figure
  pub unusable : said_of (wild least ∷ failing ∷ second after_one ∷ first 0 ∷ []) ≡ deviation (neg_ℤ (pos 250))
  -- 27 and 28: none, four and five, of which failed ones are some; 27 comes first
  pub none : said_of [] ≡ refused 27
  pub four : said_of (failing ∷ failing ∷ failing ∷ first one ∷ []) ≡ deviation (pos 250)
  pub five : said_of (first one ∷ failing ∷ failing ∷ failing ∷ failing ∷ []) ≡ refused 27
  pub five_failed : said_of (failing ∷ failing ∷ failing ∷ failing ∷ failing ∷ []) ≡ refused 27
  pub four_failed : said_of (failing ∷ failing ∷ failing ∷ wild least ∷ []) ≡ refused 28
