-- Values of records and lines. The proof is `values` of proofs/Values.antt.
use Rattle.std.specs.Prelude.{ℕ, ◌≡◌, List, [], ◌∷◌, ◌++◌, pos, negsuc, replicate, take}
use Rattle.codec.specs.Little.{le4}
use Rattle.line.specs.Text.{ascii}
use Rattle.meters.specs.Meters.{deviation, refused}
use Rattle.choose_meter.specs.Records.{said_in}
use Rattle.choose_meter.specs.Printed.{line_text, printed}
use Rattle.choose_meter.specs.Claims.{joined}

-- a meter's bytes, by its form, its value's bits and its accuracy's; and a record of meters
abbrev pub bytes : ℕ → ℕ → ℕ → List ℕ
bytes form value accuracy = form ∷ (le4 value ++ le4 accuracy)

abbrev pub record_with : ℕ → List (List ℕ) → List ℕ
record_with n ms = take 64 (n ∷ (joined ms ++ replicate 63 0))

-- 50.25 Hz within 1 Hz, -0.25 Hz within 0.5, 0.5 Hz within 0.25, and a failed one within 0.125
abbrev one : List ℕ
one = bytes 0 0x4249_0000 0x3f80_0000

abbrev two : List ℕ
two = bytes 1 0xbe80_0000 0x3f00_0000

abbrev three : List ℕ
three = bytes 1 0x3f00_0000 0x3e80_0000

abbrev four : List ℕ
four = bytes 2 0x3f00_0000 0x3e00_0000

pub record Values : Type 0 where
  pub line : line_text (deviation (negsuc 36)) ≡ ascii "0 -37\n"
  pub zero_line : line_text (deviation (pos 0)) ≡ ascii "0 0\n"
  pub refusal : line_text (refused 27) ≡ ascii "27\n"
  -- each place, and both forms
  pub first : said_in (record_with 1 (one ∷ two ∷ three ∷ [])) ≡ deviation (pos 250)
  pub second : said_in (record_with 2 (one ∷ two ∷ three ∷ [])) ≡ deviation (negsuc 249)
  pub third : said_in (record_with 4 (one ∷ two ∷ three ∷ four ∷ [])) ≡ deviation (pos 500)
  pub fourth : said_in (record_with 4 (one ∷ four ∷ two ∷ three ∷ [])) ≡ deviation (pos 500)
  -- byte 0 is the number, whatever stands in the places
  pub none : said_in (record_with 0 (one ∷ [])) ≡ refused 27
  pub five : said_in (record_with 5 (one ∷ two ∷ three ∷ four ∷ four ∷ [])) ≡ refused 27
  pub failed : said_in (record_with 1 (four ∷ one ∷ [])) ≡ refused 28
  -- 12 for 63 and 65 bytes, though the meter is there
  pub cut : said_in (take 63 (record_with 1 (one ∷ []))) ≡ refused 12
  pub longer : said_in (record_with 1 (one ∷ []) ++ (0 ∷ [])) ≡ refused 12
  -- nothing, whole records, and one cut short after them
  pub empty : printed [] ≡ []
  pub whole : printed (record_with 1 (one ∷ []) ++ record_with 0 []) ≡ ascii "0 250\n27\n"
  pub cut_short : printed (record_with 1 (one ∷ []) ++ (1 ∷ [])) ≡ ascii "0 250\n12\n"
