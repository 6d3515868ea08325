-- What is claimed of every sheet. The proof is `claims` of proofs/Claims.antt.
use Rattle.std.specs.Prelude.{ℕ, ◌*◌, ◌≡◌, ◌↔◌, ℤ, pos, ◌*ℤ◌}
use Rattle.power.specs.Units.{Divides, in_grains, percent_of}
use Rattle.sheet.specs.declared.Sheet.{Sheet}
use Rattle.sheet.specs.Sheet.{default_sheet, first_figures, sheet_number, InRange, whole_time, spread, per_kw, per_time_part, per_spread_part}

pub record Claims : Type 0 where
  -- 30 is given exactly where a figure is outside its range
  pub in_range : (sh : Sheet) → (sheet_number sh ≡ 0) ↔ InRange sh
  pub default_in_range : InRange default_sheet
  pub first_in_range : InRange first_figures
  -- the grains of a kW are above 0 and fit
  pub divides : (sh : Sheet) → InRange sh → Divides (per_kw sh)
  -- "The carried unit must still lose nothing for any sheet"
  pub percent : (sh : Sheet) (p : ℕ) (k : ℤ) → percent_of (per_kw sh) p k *ℤ pos 100 ≡ in_grains (per_kw sh) k *ℤ pos p
  pub time_part : (sh : Sheet) → per_time_part sh * whole_time sh ≡ per_kw sh
  pub spread_part : (sh : Sheet) → per_spread_part sh * spread sh ≡ per_kw sh
