-- What is printed of whole books, from their bytes, so that a fault in definition, state and code alike is refused. The proof is `values` of
-- proofs/Values.antt.
use Rattle.std.specs.Prelude.{◌≡◌, List, [], ◌∷◌, ◌++◌, ℕ, replicate}
use Rattle.codec.specs.Little.{le2, le4}
use Rattle.sheet.specs.Sheet.{default_sheet}
use Rattle.block.specs.Book.{book_bytes}
use Rattle.line.specs.Text.{ascii}
use Rattle.report.specs.declared.Form.TheVariants.{Line}
use Rattle.printed.specs.Printed.{printed}

-- a plant's second: measured, working point, FCR held, aFRR held (up and down alike), deviation, status; all else 0
abbrev pub plant_second : ℕ → ℕ → ℕ → ℕ → ℕ → ℕ → List ℕ
plant_second measured point fcr afrr deviation status =
    le4 measured
    ++ (le4 point
    ++ (le4 fcr ++ (le4 afrr ++ (le4 afrr ++ (replicate 12 0 ++ (le2 deviation ++ (status ∷ 0 ∷ [])))))))

-- "Full case: one second, owner 2. U: measured 4931, working point 5000, FCR held 400, deviation 50, aFRR held 1000 and 1000, setpoint 0, status 3.
-- A: FCR held 400, deviation 50, status 1. B: measured 200, working point 180, aFRR held 1000 and 1000, status 2. All else 0."
abbrev pub full_second : List ℕ
full_second = plant_second 4931 5000 400 1000 50 3 ++ (plant_second 0 0 400 0 50 1 ++ plant_second 200 180 0 1000 0 2)

-- the same, but that B's aFRR is off
abbrev pub without_b : List ℕ
without_b = plant_second 4931 5000 400 1000 50 3 ++ (plant_second 0 0 400 0 50 1 ++ plant_second 200 180 0 1000 0 0)

pub record Values : Type 0 where
  pub full_case : printed default_sheet Line (book_bytes 2 (full_second ∷ [])) ≡ ascii "0 U -79 10 0 0 A -79 0 0 0 B 0 30 0 0\nsum A -79 B 30 open 0 due -49\n"
  -- an empty input
  pub nothing : printed default_sheet Line [] ≡ ascii "refused 12 at 0\n"
  -- "A refusal prints `refused N at S` instead of the rest": of three seconds the first alone is accepted
  pub refused_second : printed default_sheet Line (book_bytes 2 (full_second ∷ without_b ∷ full_second ∷ [])) ≡ ascii "0 U -79 10 0 0 A -79 0 0 0 B 0 30 0 0\nrefused 26 at 1\n"
