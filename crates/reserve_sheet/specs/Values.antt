-- Values at the edges of the form. The proof is `values` of proofs/Values.antt.
use Rattle.std.specs.Prelude.{ℕ, ◌≡◌, List, [], ◌∷◌, set, take}
use Rattle.sheet.specs.Sheet.{default_sheet}
use Rattle.reserve_sheet.specs.Form.{sheet_of, form_number}

-- the default sheet: 1,000 is 232 and 3 times 256
abbrev pub default_bytes : List ℕ
default_bytes = 5 ∷ 5 ∷ 20 ∷ 15 ∷ 30 ∷ 0 ∷ 0 ∷ 0 ∷ 232 ∷ 3 ∷ 0 ∷ 0 ∷ 0 ∷ 0 ∷ 0 ∷ 0 ∷ []

-- with the byte b at place i
abbrev pub changed : ℕ → ℕ → ℕ
changed i b = form_number (set default_bytes i b)

pub record Values : Type 0 where
  pub default : sheet_of default_bytes ≡ default_sheet
  pub accepted : form_number default_bytes ≡ 0
  pub short : form_number (take 15 default_bytes) ≡ 12
  -- the spare bytes, first and last of each run
  pub spare_5 : changed 5 1 ≡ 18
  pub spare_7 : changed 7 1 ≡ 18
  pub spare_12 : changed 12 1 ≡ 18
  pub spare_15 : changed 15 1 ≡ 18
  -- each figure from its own place
  pub fcr_floor_is : changed 0 51 ≡ 30
  pub afrr_floor_is : changed 1 51 ≡ 30
  pub excess : changed 2 51 ≡ 30
  pub fcr_reaction_is : changed 3 16 ≡ 30
  pub afrr_reaction_is : changed 4 61 ≡ 30
  pub least_range_is : changed 11 255 ≡ 30
