-- A book second at the book that accepted seconds leave is the second over those seconds. Assumes nothing.
use Rattle.std.proofs.Common.{◌≡◌, refl, ap, ◌∙◌, List, [], ◌∷◌, ℕ, zero, suc, ℤ, pos}
use Rattle.std.proofs.lemmas.List.{length-map}
use Rattle.numbers.specs.Rules.{or_else}
use Rattle.numbers.proofs.Rules.{neither}
use Rattle.refusals.specs.Refusals as plant-answer
use Rattle.sheet.specs.declared.Sheet.{Sheet}
use Rattle.sheet.specs.Sheet.{InRange}
use Rattle.record.specs.Record.{record_of}
use Rattle.row.specs.declared.Row.{Row}
use Rattle.plant.specs.State.{PlantStep}
use Rattle.plant.specs.Refusals as plant-refusals
use Rattle.plant.specs.Rows as plant
use Rattle.plant.specs.State as plant-state
use Rattle.plant.proofs.Past.{over_bytes}
use Rattle.plant.proofs.Claims.{record_number_lem, also_accepted, none_accepted, handed_accepted}
use Rattle.book.specs.Answers.{BookStep}
use Rattle.book.specs.declared.Plant.TheVariants.{A, B}
use Rattle.book.specs.Seconds.{BookSecond, History, Closed, unit_bytes, a_bytes, b_bytes, past_of, closed_of}
use Rattle.book.specs.Refusals.{form_number, unit_number, a_number, b_number, number_at, AcceptedAfter, AllClosed, Accepted, grown_by, grown}
use Rattle.book.specs.Rows.{unit_point, pool_a, pool_b, added_to, pool_row_at, unit_row_at, a_row_at, b_row_at, answer_by, answer_at, book_figures, says, said_by, number_in}
use Rattle.book.specs.Sums.{sums_of}
use Rattle.book.specs.State.{state_of, OverPast, unit_in, pool_in, a_in, b_in, sums_with, accepted_in, on_row, refused_by, plants_in, step_by, step_in}

-- ---- no number applies to any plant

pub record Cleared (c : Closed) (h : History) (s : BookSecond) : Type 0 where
  pub form : form_number s ≡ 0
  pub unit : unit_number c h s ≡ 0
  pub a : a_number c h s ≡ 0
  pub b : b_number c h s ≡ 0

pub cleared : (c : Closed) (h : History) (s : BookSecond) → number_at c h s ≡ 0 → Cleared c h s
unfolding number_at
cleared c h s e =
    let x = neither (form_number s) _ e in
    let y = neither (unit_number c h s) _ x.1 in
    let z = neither (a_number c h s) (b_number c h s) y.1 in
    record { form = x.0; unit = y.0; a = z.0; b = z.1 }

-- what is said of the closed books
before_all : (P : Type 0) (c : Closed) (h : History) → AcceptedAfter P c h → P
before_all P c [] a = a
before_all P c (s ∷ h) a = before_all P c h a.1

pub all_closed : (c : Closed) (h : History) → Accepted c h → AllClosed c
unfolding Accepted
all_closed c h a = before_all (AllClosed c) c h a

-- each plant's own seconds were accepted
module _
    (part : List ℕ → List ℕ)
    (number : (c : Closed) (h : History) (s : BookSecond) → Cleared c h s → plant-refusals.number_at (closed_of part c) (past_of part h) (part s.bytes) ≡ 0) where
  own : (P : Type 0) (c : Closed) → plant-refusals.Accepted (closed_of part c) [] → (h : History) → AcceptedAfter P c h → plant-refusals.Accepted (closed_of part c) (past_of part h)
  own P c p [] a = p
  own P c p (s ∷ h) a = also_accepted _ _ _ (record_number_lem _ _ _ (number c h s (cleared c h s a.0))) (own P c p h a.1)

  closed : (c : Closed) → AllClosed c → plant-refusals.Accepted (closed_of part c) []
  unfolding AllClosed
  closed [] a = none_accepted
  closed (h ∷ c) a =
      handed_accepted (closed_of part c) (past_of part h) (rw (length-map h (λ (s : BookSecond). record_of (part s.bytes))) a.0)
      (own (AllClosed c) c (closed c (before_all (AllClosed c) c h a.1)) h a.1)

  part_accepted : (c : Closed) (h : History) → Accepted c h → plant-refusals.Accepted (closed_of part c) (past_of part h)
  unfolding Accepted
  part_accepted c h a = own (AllClosed c) c (closed c (all_closed c h a)) h a

pub unit_accepted : (c : Closed) (h : History) → Accepted c h → plant-refusals.Accepted (closed_of unit_bytes c) (past_of unit_bytes h)
unit_accepted c h a = part_accepted unit_bytes (λ d p s e. e.unit) c h a

pub a_accepted : (c : Closed) (h : History) → Accepted c h → plant-refusals.Accepted (closed_of a_bytes c) (past_of a_bytes h)
a_accepted c h a = part_accepted a_bytes (λ d p s e. e.a) c h a

pub b_accepted : (c : Closed) (h : History) → Accepted c h → plant-refusals.Accepted (closed_of b_bytes c) (past_of b_bytes h)
b_accepted c h a = part_accepted b_bytes (λ d p s e. e.b) c h a

-- ---- one second

module _ (sh : Sheet) (r : InRange sh) (c : Closed) (h : History) (accepted : Accepted c h) (s : BookSecond) where
  abbrev u : Row
  u = unit_row_at sh c h s

  abbrev a : Row
  a = a_row_at sh c h s

  abbrev b : Row
  b = b_row_at sh c h s

  -- a plant's step over its own past
  abbrev over : (List ℕ → List ℕ) → ℤ → ℤ → PlantStep
  over part m w =
      record {
        answer = plant.answer_at sh (closed_of part c) (past_of part h) (part s.bytes) m w;
        state = plant-state.state_of sh (closed_of part c) (plant-refusals.grown (closed_of part c) (past_of part h) (part s.bytes));
      }

  unit_over : unit_in (state_of sh c h) s ≡ over unit_bytes (pos 0) (pos 0)
  unfolding unit_in state_of
  unit_over = over_bytes sh r (closed_of unit_bytes c) (past_of unit_bytes h) (unit_accepted c h accepted) (unit_bytes s.bytes) (pos 0) (pos 0)

  a_over : a_in (state_of sh c h) s u ≡ over a_bytes (added_to pool_a s u) (unit_point s.bytes)
  unfolding pool_in state_of
  a_over = over_bytes sh r (closed_of a_bytes c) (past_of a_bytes h) (a_accepted c h accepted) (a_bytes s.bytes) _ _

  b_over : b_in (state_of sh c h) s u ≡ over b_bytes (added_to pool_b s u) (unit_point s.bytes)
  unfolding pool_in state_of
  b_over = over_bytes sh r (closed_of b_bytes c) (past_of b_bytes h) (b_accepted c h accepted) (b_bytes s.bytes) _ _

  unit_answer : (unit_in (state_of sh c h) s).answer ≡ plant-answer.answer_by (unit_number c h s) u
  unfolding unit_row_at plant.answer_at
  unit_answer = ap (λ (p : PlantStep). p.answer) unit_over

  a_answer : (a_in (state_of sh c h) s u).answer ≡ plant-answer.answer_by (a_number c h s) a
  unfolding pool_row_at plant.answer_at
  a_answer = ap (λ (p : PlantStep). p.answer) a_over

  b_answer : (b_in (state_of sh c h) s u).answer ≡ plant-answer.answer_by (b_number c h s) b
  unfolding pool_row_at plant.answer_at
  b_answer = ap (λ (p : PlantStep). p.answer) b_over

  -- a plant's state after a second that it accepted
  grown_state : (part : List ℕ → List ℕ) (l : List ℕ) → plant-refusals.number_at (closed_of part c) (past_of part h) l ≡ 0 → plant-state.state_of sh (closed_of part c) (plant-refusals.grown (closed_of part c) (past_of part h) l) ≡ plant-state.state_of sh (closed_of part c) (record_of l ∷ past_of part h)
  unfolding plant-refusals.grown
  grown_state part l e = rw e

  abbrev outcome : ℕ → ℕ → ℕ → ℕ → BookStep
  outcome nf nu na nb = record { answer = answer_by nf nu na nb u a b; book = state_of sh c (grown_by (or_else nf (or_else nu (or_else na nb))) s h) }

  accepted_is : unit_number c h s ≡ 0 → a_number c h s ≡ 0 → b_number c h s ≡ 0 → accepted_in (state_of sh c h) s u a b ≡ outcome 0 0 0 0
  unfolding state_of sums_with sums_of
  accepted_is eu ea eb =
      λ i. record {
        answer = answer_by 0 0 0 0 u a b;
        book =
            record {
              sheet = sh;
              unit = (ap (λ (p : PlantStep). p.state) unit_over ∙ grown_state unit_bytes (unit_bytes s.bytes) eu) i;
              a = (ap (λ (p : PlantStep). p.state) a_over ∙ grown_state a_bytes (a_bytes s.bytes) ea) i;
              b = (ap (λ (p : PlantStep). p.state) b_over ∙ grown_state b_bytes (b_bytes s.bytes) eb) i;
              sums = sums_of sh c (s ∷ h);
            };
      }

  by_b : (n : ℕ) → b_number c h s ≡ n → unit_number c h s ≡ 0 → a_number c h s ≡ 0
      → on_row (b_in (state_of sh c h) s u).answer (λ b. accepted_in (state_of sh c h) s u a b) (refused_by (state_of sh c h) B) ≡ outcome 0 0 0 n
  by_b zero e eu ea = rw (b_answer, e) (accepted_is eu ea e)
  by_b (suc n) e eu ea = rw (b_answer, e)

  by_a : (n : ℕ) → a_number c h s ≡ n → unit_number c h s ≡ 0
      → on_row (a_in (state_of sh c h) s u).answer (λ a. on_row (b_in (state_of sh c h) s u).answer (λ b. accepted_in (state_of sh c h) s u a b) (refused_by (state_of sh c h) B)) (refused_by (state_of sh c h) A)
      ≡ outcome 0 0 n (b_number c h s)
  by_a zero e eu = rw (a_answer, e) (by_b (b_number c h s) refl eu e)
  by_a (suc n) e eu = rw (a_answer, e)

  by_unit : (n : ℕ) → unit_number c h s ≡ n → plants_in (state_of sh c h) s ≡ outcome 0 n (a_number c h s) (b_number c h s)
  unfolding plants_in
  by_unit zero e = rw (unit_answer, e) (by_a (a_number c h s) refl e)
  by_unit (suc n) e = rw (unit_answer, e)

  pub step_over : step_in (state_of sh c h) s ≡ record { answer = answer_at sh c h s; book = state_of sh c (grown c h s) }
  unfolding step_in answer_at grown number_at
  step_over = go (form_number s)
    where
      go : (n : ℕ) → step_by n (state_of sh c h) (plants_in (state_of sh c h) s) ≡ outcome n (unit_number c h s) (a_number c h s) (b_number c h s)
      go zero = by_unit (unit_number c h s) refl
      go (suc n) = refl

-- ---- the answer in 01's terms

says_by : (nf nu na nb : ℕ) (u a b : Row) → says (answer_by nf nu na nb u a b) ≡ said_by nf nu na nb (book_figures u a b)
says_by (suc n) nu na nb u a b = refl
says_by zero (suc n) na nb u a b = refl
says_by zero zero (suc n) nb u a b = refl
says_by zero zero zero (suc n) u a b = refl
says_by zero zero zero zero u a b = refl

number_by : (nf nu na nb : ℕ) (u a b : Row) → number_in (answer_by nf nu na nb u a b) ≡ or_else nf (or_else nu (or_else na nb))
number_by (suc n) nu na nb u a b = refl
number_by zero (suc n) na nb u a b = refl
number_by zero zero (suc n) nb u a b = refl
number_by zero zero zero (suc n) u a b = refl
number_by zero zero zero zero u a b = refl

pub still_accepted : (c : Closed) (h : History) → Accepted c h → (s : BookSecond) → Accepted c (grown c h s)
unfolding grown Accepted
still_accepted c h a s = go (number_at c h s) refl
  where
    go : (n : ℕ) → number_at c h s ≡ n → Accepted c (grown_by n s h)
    go zero e = (e, a)
    go (suc n) e = a

pub over_past : (sh : Sheet) → InRange sh → (c : Closed) (h : History) → Accepted c h → (s : BookSecond) → OverPast sh c h s (step_in (state_of sh c h) s)
unfolding answer_at number_at
over_past sh r c h a s =
    let o = step_over sh r c h a s in
    record {
      said = ap (λ (p : BookStep). says p.answer) o ∙ says_by (form_number s) (unit_number c h s) (a_number c h s) (b_number c h s) _ _ _;
      number = ap (λ (p : BookStep). number_in p.answer) o ∙ number_by (form_number s) (unit_number c h s) (a_number c h s) (b_number c h s) _ _ _;
      answer = ap (λ (p : BookStep). p.answer) o;
      book = ap (λ (p : BookStep). p.book) o;
      stays = still_accepted c h a s;
    }
