-- Values at the edges of the ranges. The proof is `values` of proofs/Values.antt.
use Rattle.std.specs.Prelude.{ℕ, ◌≡◌, ℤ, pos}
use Rattle.power.specs.Units.{kw, most_per_kw}
use Rattle.sheet.specs.declared.Sheet.{Sheet}
use Rattle.sheet.specs.Sheet.{default_sheet, sheet_number, per_kw}

-- a sheet by its six figures, in document 02's order
abbrev pub sheet_of : ℕ → ℕ → ℕ → ℤ → ℕ → ℕ → Sheet
sheet_of f a e l r q = record { fcr_floor = f; afrr_floor = a; excess = e; least_range = kw l; fcr_reaction = r; afrr_reaction = q }

pub record Values : Type 0 where
  -- at the ends of all ranges, and one beyond each
  pub lowest : sheet_number (sheet_of 0 0 0 (pos 1) 5 1) ≡ 0
  pub highest : sheet_number (sheet_of 50 50 50 (pos 100000) 15 60) ≡ 0
  pub fcr_floor_51 : sheet_number (sheet_of 51 5 20 (pos 1000) 15 30) ≡ 30
  pub afrr_floor_51 : sheet_number (sheet_of 5 51 20 (pos 1000) 15 30) ≡ 30
  pub excess_51 : sheet_number (sheet_of 5 5 51 (pos 1000) 15 30) ≡ 30
  pub least_0 : sheet_number (sheet_of 5 5 20 (pos 0) 15 30) ≡ 30
  pub least_100001 : sheet_number (sheet_of 5 5 20 (pos 100001) 15 30) ≡ 30
  pub fcr_reaction_4 : sheet_number (sheet_of 5 5 20 (pos 1000) 4 30) ≡ 30
  pub fcr_reaction_16 : sheet_number (sheet_of 5 5 20 (pos 1000) 16 30) ≡ 30
  pub afrr_reaction_0 : sheet_number (sheet_of 5 5 20 (pos 1000) 15 0) ≡ 30
  pub afrr_reaction_61 : sheet_number (sheet_of 5 5 20 (pos 1000) 15 61) ≡ 30
  -- the grains of a kW: of the default sheet, and the most and the fewest
  pub default_grains : per_kw default_sheet ≡ 810000
  pub most_grains : per_kw (sheet_of 5 5 20 (pos 1000) 15 1) ≡ most_per_kw
  pub fewest_grains : per_kw (sheet_of 5 5 20 (pos 1000) 5 60) ≡ 240000
