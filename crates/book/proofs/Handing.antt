-- A handover, by the length of the closing book. Assumes nothing.
use Rattle.std.proofs.Common.{◌≡◌, refl, sym, ap, ◌∙◌, Bool, true, false, not, [], ◌∷◌, ℕ, ◌%◌, eq-eqb, ne_eqb, eqb, length}
use Rattle.std.proofs.lemmas.List.{length-map}
use Rattle.sheet.specs.declared.Sheet.{Sheet}
use Rattle.mfrr.specs.Signal.{quarter_hour}
use Rattle.plant.specs.declared.PlantState.{PlantState}
use Rattle.plant.specs.State as plant
use Rattle.plant.specs.Seconds as plant-seconds
use Rattle.book.specs.declared.Book.{Book}
use Rattle.refusals.specs.Refusals.{Refused}
use Rattle.book.specs.Seconds.{History, Closed, unit_bytes, a_bytes, b_bytes, past_of, closed_of}
use Rattle.book.specs.Sums.{sums_of, no_sums}
use Rattle.book.specs.State.{state_of, Ready}
use Rattle.book.specs.HandOver.{Opened, hand_over_number, handed_over, hand_over_by, hand_over_in, AtHandOver, HandedOver}
use Rattle.book.proofs.Sizes.{sums_none}

-- ---- over the past

plant_handed : (sh : Sheet) (c : plant-seconds.Closed) (h : plant-seconds.History) → plant.handed_over (plant.state_of sh c h) ≡ plant.state_of sh (h ∷ c) []
unfolding plant.state_of
plant_handed sh c h = refl

pub handed : (sh : Sheet) (c : Closed) (h : History) → handed_over (state_of sh c h) ≡ state_of sh (h ∷ c) []
unfolding state_of sums_of
handed sh c h =
    λ i. record {
      sheet = sh;
      unit = plant_handed sh (closed_of unit_bytes c) (past_of unit_bytes h) i;
      a = plant_handed sh (closed_of a_bytes c) (past_of a_bytes h) i;
      b = plant_handed sh (closed_of b_bytes c) (past_of b_bytes h) i;
      sums = no_sums;
    }

-- the book's count is that of its accepted seconds
pub number_is : (sh : Sheet) (c : Closed) (h : History) → hand_over_in (state_of sh c h) ≡ hand_over_by (hand_over_number (length h)) (state_of sh c h)
unfolding hand_over_in state_of plant.state_of
number_is sh c h = ap (λ (t : ℕ). hand_over_by (hand_over_number t) (state_of sh c h)) (length-map h _)

pub at_hand_over : (sh : Sheet) (c : Closed) (h : History) → AtHandOver sh (state_of sh c h) c h
unfolding hand_over_number
at_hand_over sh c h =
    record {
      refused = λ n. number_is sh c h ∙ rw (ne_eqb _ _ n);
      opened = λ e. number_is sh c h ∙ rw (eq-eqb _ _ e, handed sh c h);
    }

-- ---- the contract

-- a plant's state that opens the next book
abbrev Opens : PlantState → PlantState → Type 0
Opens st r = (r ≡ plant.handed_over st) × ((sh : Sheet) → plant.Ready sh st → plant.Ready sh r)

-- w is what `is_whole` answers of the book's count
module _ (k : Book) (ready : Ready k) {w : Bool} (ew : w ≡ eqb (k.unit.seconds % quarter_hour) 0) where
  past : (sh : Sheet) (c : Closed) (h : History) → k ≡ state_of sh c h → AtHandOver sh k c h
  past sh c h e = rw e (at_hand_over sh c h)

  pub refused : not w ≡ true → HandedOver k (record { answer = Refused 29; book = k })
  unfolding hand_over_in hand_over_number
  refused n =
      let t : not (eqb (k.unit.seconds % quarter_hour) 0) ≡ true = ap not (sym ew) ∙ n in
      record { is = rw t; number = rw t; past = past; ready = ready }

  pub opened :
      {u a b : PlantState} → not w ≡ false → Opens k.unit u → Opens k.a a → Opens k.b b
      → HandedOver k (record { answer = Opened; book = record { sheet = k.sheet; unit = u; a = a; b = b; sums = no_sums } })
  unfolding hand_over_in hand_over_number
  opened n u a b =
      let t : not (eqb (k.unit.seconds % quarter_hour) 0) ≡ false = ap not (sym ew) ∙ n in
      record {
        is = rw (t, u.0, a.0, b.0);
        number = rw t;
        past = past;
        ready = record { unit = u.1 k.sheet ready.unit; a = a.1 k.sheet ready.a; b = b.1 k.sheet ready.b; sums = sums_none _ };
      }
