-- How often, and by how much, each kind of each plant stood outside its band: sums over the seconds that a book accepted, each second with those
-- accepted before it, in this book and in the closed ones c.
use Rattle.std.specs.Prelude.{List, [], ◌∷◌, ℕ, ◌+◌}
use Rattle.sheet.specs.declared.Sheet.{Sheet}
use Rattle.row.specs.declared.KindRow.{KindRow}
use Rattle.row.specs.declared.Row.{Row}
use Rattle.row.specs.declared.side.KindCounts.{KindCounts}
use Rattle.row.specs.declared.side.PlantCounts.{PlantCounts}
use Rattle.row.specs.Side.{side_of, once_below, once_above, kw_below, kw_above}
use Rattle.book.specs.Seconds.{BookSecond, History, Closed}
use Rattle.book.specs.Rows.{unit_row_at, a_row_at, b_row_at}
use Rattle.book.specs.State.{state_of}
use Rattle.tally.specs.declared.Tally.{Tally}
use Rattle.report.specs.declared.Form.{Form}
use Rattle.report.specs.Kept.{Kept, keep}
use Rattle.report.specs.Running.{second_in}

abbrev pub added_over : (History → BookSecond → ℕ) → History → ℕ
added_over f [] = 0
added_over f (s ∷ h) = added_over f h + f h s

-- where k gives a kind's figures in a second after its past
abbrev pub kind_counts : (History → BookSecond → KindRow) → History → KindCounts
kind_counts k h =
    record {
      below = record { seconds = added_over (λ p s. once_below (side_of (k p s))) h; kw_seconds = added_over (λ p s. kw_below (side_of (k p s))) h };
      above = record { seconds = added_over (λ p s. once_above (side_of (k p s))) h; kw_seconds = added_over (λ p s. kw_above (side_of (k p s))) h };
    }

abbrev pub plant_counts : (History → BookSecond → Row) → History → PlantCounts
plant_counts r h = record { fcr = kind_counts (λ p s. (r p s).fcr) h; afrr = kind_counts (λ p s. (r p s).afrr) h; mfrr = kind_counts (λ p s. (r p s).mfrr) h }

unfoldable pub tally_of : Sheet → Closed → History → Tally
tally_of sh c h = record { unit = plant_counts (unit_row_at sh c) h; a = plant_counts (a_row_at sh c) h; b = plant_counts (b_row_at sh c) h }

-- what is kept after the closed books c and the seconds h
abbrev pub kept_of : Sheet → Closed → History → Kept
kept_of sh c h = keep (state_of sh c h) (tally_of sh c h)

-- what is kept after a list of seconds, refused ones included wherever they fall, each with its own owner byte
unfoldable pub kept_after : Form → Kept → List BookSecond → Kept
kept_after f k [] = k
kept_after f k (s ∷ ss) = kept_after f (second_in (record { form = f; owner = s.owner; seconds = 0 }) k s.bytes).kept ss
