-- A book with no closed one before it is 01's (02, W7: "Opening blank stays possible"): its plants have none, and what is accepted is judged by the book's
-- own seconds alone. It is claimed in `BookClaims` of specs/Claims.antt.
use Rattle.std.specs.Prelude.{ℕ, ◌≡◌, ◌↔◌, List, [], ◌∷◌, pos}
use Rattle.numbers.specs.Rules.{or_else}
use Rattle.sheet.specs.declared.Sheet.{Sheet}
use Rattle.record.specs.Record.{record_of}
use Rattle.plant.specs.Refusals as plant
use Rattle.plant.specs.Rows as plant-rows
use Rattle.plant.specs.State as plant-state
use Rattle.book.specs.Seconds.{BookSecond, History, unit_bytes, a_bytes, b_bytes, past_of}
use Rattle.book.specs.Refusals.{form_number, number_at, Accepted}
use Rattle.book.specs.Rows.{unit_point, Pool, added_to, unit_row_at, pool_row_at}
use Rattle.book.specs.Sums.{sums_of}
use Rattle.book.specs.State.{state_of}

-- a plant's own seconds are all its past
abbrev pub plant_number : (List ℕ → List ℕ) → History → BookSecond → ℕ
plant_number part h s = plant.number_at [] (past_of part h) (part s.bytes)

pub record FreshBook (sh : Sheet) (h : History) : Type 0 where
  pub number : (s : BookSecond) → number_at [] h s ≡ or_else (form_number s) (or_else (plant_number unit_bytes h s) (or_else (plant_number a_bytes h s) (plant_number b_bytes h s)))
  pub unit_row : (s : BookSecond) → unit_row_at sh [] h s ≡ plant-rows.row_at sh [] (past_of unit_bytes h) (record_of (unit_bytes s.bytes)) (pos 0) (pos 0)
  pub pool_row :
      (p : Pool) (s : BookSecond)
      → pool_row_at sh p [] h s ≡ plant-rows.row_at sh [] (past_of p.bytes h) (record_of (p.bytes s.bytes)) (added_to p s (unit_row_at sh [] h s)) (unit_point s.bytes)
  pub state :
      state_of sh [] h
      ≡ record {
        sheet = sh;
        unit = plant-state.state_of sh [] (past_of unit_bytes h);
        a = plant-state.state_of sh [] (past_of a_bytes h);
        b = plant-state.state_of sh [] (past_of b_bytes h);
        sums = sums_of sh [] h;
      }
  -- "A book second is accepted when no refusal number applies to it, judged with the seconds accepted before it"
  pub accepted : (s : BookSecond) → Accepted [] (s ∷ h) ↔ ((number_at [] h s ≡ 0) × Accepted [] h)
