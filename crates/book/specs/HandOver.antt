-- A book handed over (02, W7): "The closing state of one book shall open the next: setpoints, limits, status, calls and leftovers, with times moved
-- back by the closed book's length and the sums set to 0."
use Rattle.std.specs.Prelude.{ℕ, zero, suc, ◌%◌, ◌≡◌, List, [], ◌∷◌, length}
use Rattle.numbers.specs.Rules.{Rule, refuse, first, differ}
use Rattle.refusals.specs.Refusals.{Answer, Given, Refused, answer_number}
use Rattle.sheet.specs.declared.Sheet.{Sheet}
use Rattle.row.specs.declared.sums.Sums.{Sums}
use Rattle.mfrr.specs.Signal.{quarter_hour}
use Rattle.plant.specs.State as plant
use Rattle.book.specs.declared.Book.{Book}
use Rattle.book.specs.Seconds.{History, Closed}
use Rattle.book.specs.Sums.{no_sums}
use Rattle.book.specs.State.{state_of, Ready}

-- "29 when the closing book's length isn't a multiple of 900": its length t is the seconds that it accepted
abbrev pub hand_over_rules : ℕ → List Rule
hand_over_rules t = refuse 29 (differ (t % quarter_hour) 0) ∷ []

unfoldable pub hand_over_number : ℕ → ℕ
hand_over_number t = first (hand_over_rules t)

-- the plants' states, with the sums q; "A handed-over book keeps its sheet" (02, W9)
abbrev pub opening_with : Book → Sums → Book
opening_with k q = record { sheet = k.sheet; unit = plant.handed_over k.unit; a = plant.handed_over k.a; b = plant.handed_over k.b; sums = q }

-- "and the sums set to 0"
abbrev pub handed_over : Book → Book
handed_over k = opening_with k no_sums

-- the next book opens, or a number
abbrev pub Opened : Answer Unit
Opened = Given tt

-- what a handover gives: the next book, or the closing one as it was
pub record HandOver : Type 0 where
  pub answer : Answer Unit
  pub book : Book

-- "and no state is handed over": the closing book stays as it was
abbrev pub hand_over_by : ℕ → Book → HandOver
hand_over_by zero k = record { answer = Opened; book = handed_over k }
hand_over_by (suc n) k = record { answer = Refused (suc n); book = k }

unfoldable pub hand_over_in : Book → HandOver
hand_over_in k = hand_over_by (hand_over_number k.unit.seconds) k

-- the closed books, and the seconds of the book at hand, after the handover of one that accepted h
abbrev pub closed_by : ℕ → Closed → History → Closed
closed_by zero c h = h ∷ c
closed_by (suc n) c h = c

unfoldable pub closed_handed : Closed → History → Closed
closed_handed c h = closed_by (hand_over_number (length h)) c h

abbrev pub past_by : ℕ → History → History
past_by zero h = []
past_by (suc n) h = h

unfoldable pub past_handed : History → History
past_handed h = past_by (hand_over_number (length h)) h

-- the handover of the book k, where h are its accepted seconds after the closed books c
pub record AtHandOver (sh : Sheet) (k : Book) (c : Closed) (h : History) : Type 0 where
  -- "29 when the closing book's length isn't a multiple of 900, and no state is handed over"
  pub refused : (length h % quarter_hour ≡ 0 → ⊥) → hand_over_in k ≡ record { answer = Refused 29; book = k }
  -- else the next book opens with nothing accepted, and its past is the closed books' seconds
  pub opened : length h % quarter_hour ≡ 0 → hand_over_in k ≡ record { answer = Opened; book = state_of sh (h ∷ c) [] }

-- what the operation ensures
pub record HandedOver (k : Book) (r : HandOver) : Type 0 where
  pub is : r ≡ hand_over_in k
  pub number : answer_number r.answer ≡ hand_over_number k.unit.seconds
  -- where accepted seconds left the book: 29 by their number, or the book that has them as its past
  pub past : (sh : Sheet) (c : Closed) (h : History) → k ≡ state_of sh c h → AtHandOver sh k c h
  -- what callers need to go on
  pub ready : Ready r.book
