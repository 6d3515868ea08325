-- The lines for those who recompute the shares (02, W8).
use Rattle.std.specs.Prelude.{ℕ, List, ◌++◌}
use Rattle.row.specs.declared.Rounding.{Rounding}
use Rattle.row.specs.declared.Row.{Row}
use Rattle.line.specs.Text.{ascii, start_text, field, unsigned}

-- of a kind: tolerance, rounded-down share, remainder over T, and the extra kW, 0 or 1
unfoldable pub rounding_text : Rounding → List ℕ
rounding_text r = unsigned r.tolerance ++ (unsigned r.floor ++ (unsigned r.remainder ++ unsigned r.extra))

-- of FCR, aFRR and mFRR
unfoldable pub roundings_text : Row → List ℕ
roundings_text x = rounding_text x.fcr.rounding ++ (rounding_text x.afrr.rounding ++ rounding_text x.mfrr.rounding)

-- a plant's line: the second, the letter, error and T, then the kinds
unfoldable pub shares_text : ℕ → ℕ → Row → List ℕ
shares_text t letter x = start_text t letter ++ (field x.error.0 ++ (unsigned x.total ++ (roundings_text x ++ ascii "\n")))
