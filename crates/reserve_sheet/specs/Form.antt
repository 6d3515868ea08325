-- The 16 bytes of a sheet that stand before its book (D64): "FCR floor, aFRR floor, excess: a byte each; FCR and aFRR reaction time: a byte each; 3
-- bytes 0; least range, 4 bytes little-endian, signed; 4 bytes 0".
use Rattle.std.specs.Prelude.{ℕ, Bool, ◌||◌, List, [], ◌∷◌, length, get_or, Result, Ok, Err}
use Rattle.refusals.specs.declared.Refusal.{Refusal}
use Rattle.refusals.specs.Refusals.{Answer, Given, Refused, number_of, answer_by}
use Rattle.numbers.specs.Rules.{Rule, refuse, first, differ}
use Rattle.codec.specs.Little.{u32_at, i32_at}
use Rattle.power.specs.Units.{kw}
use Rattle.sheet.specs.declared.Sheet.{Sheet}
use Rattle.sheet.specs.declared.fair.FairSheet.{FairSheet}
use Rattle.sheet.specs.Sheet.{sheet_number}

abbrev pub sheet_size : ℕ
sheet_size = 16

unfoldable pub sheet_of : List ℕ → Sheet
sheet_of s =
    record {
      fcr_floor = get_or s 0 0;
      afrr_floor = get_or s 1 0;
      excess = get_or s 2 0;
      fcr_reaction = get_or s 3 0;
      afrr_reaction = get_or s 4 0;
      least_range = kw (i32_at s 8);
    }

-- a byte that is to be 0 and isn't
unfoldable pub spare_set : List ℕ → Bool
spare_set s = differ (get_or s 5 0) 0 || (differ (get_or s 6 0) 0 || (differ (get_or s 7 0) 0 || differ (u32_at s 12) 0))

-- "when a figure is outside its range"
unfoldable pub figure_out : List ℕ → Bool
figure_out s = differ (sheet_number (sheet_of s)) 0

-- 12 for another length, as a short block has it; 18 for a spare byte; then 30
abbrev pub form_rules : List ℕ → List Rule
form_rules s = refuse 12 (differ (length s) sheet_size) ∷ refuse 18 (spare_set s) ∷ refuse 30 (figure_out s) ∷ []

unfoldable pub form_number : List ℕ → ℕ
form_number s = first (form_rules s)

-- what is read of the bytes
unfoldable pub read_of : List ℕ → Answer Sheet
read_of s = answer_by (form_number s) (sheet_of s)

-- what a result says, of a sheet its figures
abbrev pub figures_told : Result FairSheet Refusal → Answer Sheet
figures_told (Ok sh) = Given sh.figures
figures_told (Err e) = Refused (number_of e)
