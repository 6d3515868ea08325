-- "The 5 % floors, the 5,000 kW, the reaction times and the factor 1.2 become a sheet handed over with a fresh book" (02, W9).
use Rattle.std.specs.Prelude.{ℕ, ◌+◌, ◌-◌, ◌*◌, ◌≤◌, Bool, ◌||◌, List, [], ◌∷◌, ltb, pos, ◌≤ℤ◌}
use Rattle.numbers.specs.Bounds.{Within, outside}
use Rattle.numbers.specs.Rules.{Rule, refuse, first}
use Rattle.power.specs.Units.{kw}
use Rattle.sheet.specs.declared.Sheet.{Sheet}

-- "The default range is now 1,000 kW": 5 % and 5 %, 1.2, 1,000 kW, 15 s and 30 s
unfoldable pub default_sheet : Sheet
default_sheet = record { fcr_floor = 5; afrr_floor = 5; excess = 20; least_range = kw (pos 1000); fcr_reaction = 15; afrr_reaction = 30 }

-- document 01's figures: the default sheet with the least range of 5,000 kW
unfoldable pub first_figures : Sheet
first_figures = record { fcr_floor = 5; afrr_floor = 5; excess = 20; least_range = kw (pos 5000); fcr_reaction = 15; afrr_reaction = 30 }

-- ---- the ranges

-- "The floors, one each for FCR and aFRR, and the excess over 1 are whole percent from 0 to 50."
abbrev pub most_floor : ℕ
most_floor = 50

unfoldable pub percent_out : Sheet → Bool
percent_out sh = ltb most_floor sh.fcr_floor || (ltb most_floor sh.afrr_floor || ltb most_floor sh.excess)

-- "The minimum gradient range is whole kW from 1 to 100,000."
abbrev pub most_least : ℕ
most_least = 100000

unfoldable pub range_out : Sheet → Bool
range_out sh = outside (pos 1) (pos most_least) sh.least_range.0

-- "The FCR reaction time is 5 to 15 seconds"
abbrev pub least_fcr_reaction : ℕ
least_fcr_reaction = 5

abbrev pub most_fcr_reaction : ℕ
most_fcr_reaction = 15

unfoldable pub fcr_reaction_out : Sheet → Bool
fcr_reaction_out sh = ltb sh.fcr_reaction least_fcr_reaction || ltb most_fcr_reaction sh.fcr_reaction

-- "The aFRR reaction time is 1 to 60 seconds"
abbrev pub most_afrr_reaction : ℕ
most_afrr_reaction = 60

unfoldable pub afrr_reaction_out : Sheet → Bool
afrr_reaction_out sh = ltb sh.afrr_reaction 1 || ltb most_afrr_reaction sh.afrr_reaction

-- "30 when a figure is outside its range, before the book opens"
abbrev pub sheet_rules : Sheet → List Rule
sheet_rules sh =
    refuse 30 (percent_out sh)
    ∷ refuse 30 (range_out sh)
    ∷ refuse 30 (fcr_reaction_out sh)
    ∷ refuse 30 (afrr_reaction_out sh)
    ∷ []

unfoldable pub sheet_number : Sheet → ℕ
sheet_number sh = first (sheet_rules sh)

-- no figure is outside its range
pub record InRange (sh : Sheet) : Type 0 where
  pub fcr_floor_is : sh.fcr_floor ≤ most_floor
  pub afrr_floor_is : sh.afrr_floor ≤ most_floor
  pub excess : sh.excess ≤ most_floor
  pub least_some : pos 1 ≤ℤ sh.least_range.0
  pub least_most : Within most_least sh.least_range.0
  pub fcr_least : least_fcr_reaction ≤ sh.fcr_reaction
  pub fcr_most : sh.fcr_reaction ≤ most_fcr_reaction
  pub afrr_least : 1 ≤ sh.afrr_reaction
  pub afrr_most : sh.afrr_reaction ≤ most_afrr_reaction

-- ---- times, and the grains of a kW

-- "the whole FCR time w is twice that"
abbrev pub whole_time : Sheet → ℕ
whole_time sh = 2 * sh.fcr_reaction

-- the seconds back that aFRR's setpoints count; "the gradient divides by 300 minus" the reaction time
abbrev pub window : ℕ
window = 300

abbrev pub spread : Sheet → ℕ
spread sh = window - sh.afrr_reaction

-- "The carried unit must still lose nothing for any sheet": a percentage of a kW, a kW in parts of the whole FCR time and a kW in parts of the spread are
-- all whole grains
unfoldable pub per_kw : Sheet → ℕ
per_kw sh = 100 * (whole_time sh * spread sh)

-- the grains of such parts: a kW over the whole FCR time, and over the spread
unfoldable pub per_time_part : Sheet → ℕ
per_time_part sh = 100 * spread sh

unfoldable pub per_spread_part : Sheet → ℕ
per_spread_part sh = 100 * whole_time sh

-- "1 + excess", in percent
abbrev pub factor : Sheet → ℕ
factor sh = 100 + sh.excess
