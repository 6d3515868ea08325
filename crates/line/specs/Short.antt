-- The text that says which kind was short: of each plant's second the kinds outside their bands, and of the whole book how often.
use Rattle.std.specs.Prelude.{ℕ, List, [], ◌∷◌, ◌++◌}
use Rattle.row.specs.declared.Row.{Row}
use Rattle.row.specs.declared.side.BandSide.{BandSide}
use Rattle.row.specs.declared.side.BandSide.TheVariants.{Within, Below, Above}
use Rattle.row.specs.declared.side.SideCount.{SideCount}
use Rattle.row.specs.declared.side.KindCounts.{KindCounts}
use Rattle.row.specs.declared.side.PlantCounts.{PlantCounts}
use Rattle.row.specs.Side.{side_of}
use Rattle.line.specs.declared.short_lines.KindName.{KindName}
use Rattle.line.specs.declared.short_lines.KindName.TheVariants.{Fcr, Afrr, Mfrr}
use Rattle.line.specs.Text.{ascii, digits, start_text}

-- a kind's name, after a space
abbrev pub name_of : KindName → List ℕ
name_of Fcr = ascii " FCR"
name_of Afrr = ascii " aFRR"
name_of Mfrr = ascii " mFRR"

-- ---- a second

-- 1020 U aFRR below 512: second, plant, kind, side of its band, and kW
unfoldable pub outside_text : ℕ → ℕ → List ℕ → List ℕ → ℕ → List ℕ
outside_text t letter kind side kw = start_text t letter ++ (kind ++ (side ++ (digits kw ++ ascii "\n")))

-- a kind within its band has no line
abbrev pub side_text : ℕ → ℕ → List ℕ → BandSide → List ℕ
side_text t letter kind Within = []
side_text t letter kind (Below kw) = outside_text t letter kind (ascii " below ") kw
side_text t letter kind (Above kw) = outside_text t letter kind (ascii " above ") kw

-- the kinds of a plant in the order FCR, aFRR, mFRR
unfoldable pub short_text : ℕ → ℕ → Row → List ℕ
short_text t letter x =
    side_text t letter (name_of Fcr) (side_of x.fcr)
    ++ (side_text t letter (name_of Afrr) (side_of x.afrr) ++ side_text t letter (name_of Mfrr) (side_of x.mfrr))

-- ---- the counts

-- seconds and kW-seconds
unfoldable pub side_count_text : List ℕ → SideCount → List ℕ
side_count_text side c = side ++ (digits c.seconds ++ (ascii " " ++ digits c.kw_seconds))

-- U aFRR below 300 153600 above 0 0
unfoldable pub kind_counts_text : ℕ → List ℕ → KindCounts → List ℕ
kind_counts_text letter kind c =
    (letter ∷ []) ++ (kind ++ (side_count_text (ascii " below ") c.below ++ (side_count_text (ascii " above ") c.above ++ ascii "\n")))

unfoldable pub counts_text : ℕ → PlantCounts → List ℕ
counts_text letter c =
    kind_counts_text letter (name_of Fcr) c.fcr
    ++ (kind_counts_text letter (name_of Afrr) c.afrr ++ kind_counts_text letter (name_of Mfrr) c.mfrr)
