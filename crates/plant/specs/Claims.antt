-- What is claimed of a plant second: of every list from a fresh state, and of every accepted second's row. The proof is `claims` of
-- proofs/Claims.antt.
use Rattle.std.specs.Prelude.{ℕ, ◌+◌, ◌%◌, ◌≤◌, ◌≡◌, ◌↔◌, ◌⊎◌, true, false, List, [], ◌∷◌, ◌++◌, ℤ, pos, nat_abs, ◌+ℤ◌, length}
use Rattle.refusals.specs.Refusals.{answer_by}
use Rattle.numbers.specs.Bounds.{Within}
use Rattle.numbers.specs.Rules.{first}
use Rattle.sheet.specs.declared.Sheet.{Sheet}
use Rattle.record.specs.declared.Record.{Record}
use Rattle.record.specs.Record.{record_of, bits_of}
use Rattle.row.specs.Fits.{Row32}
use Rattle.row.specs.Row.{kinds_of, AllInBand, sum_actuals}
use Rattle.sharing.specs.Sizes.{SizedRow}
use Rattle.sharing.specs.Shares.{some_on}
use Rattle.sharing.specs.Rows.{Kind, kinds_on, error_of, total_of, three}
use Rattle.plant.specs.Seconds.{History, Closed, last_status_of}
use Rattle.plant.specs.Refusals.{status_moved, record_number_at, number_at, base_number_at, free_rules_at, free_number_at, Accepted}
use Rattle.plant.specs.Rows.{kinds_at, shared_difference, row_at, answer_at}
use Rattle.plant.specs.State.{state_of, handed_over, OverPast, Ready, step_in}
use Rattle.mfrr.specs.Signal.{quarter_hour}
use Rattle.plant.specs.Values.{in_status, calling}
use Rattle.plant.specs.Fresh.{FreshBook}
use Rattle.plant.specs.Cut.{Cut}
use Rattle.plant.specs.Run.{PlantSecond, state_after, answers, accepted, answers_over}

-- the past that the definitions see is exactly the accepted seconds: of a list that comes after the closed books c and the seconds h
pub record EveryList (sh : Sheet) (c : Closed) (h : History) (ss : List PlantSecond) : Type 0 where
  pub last : state_after sh (state_of sh c h) ss ≡ state_of sh c (accepted c h ss)
  pub each : answers sh (state_of sh c h) ss ≡ answers_over sh c h ss
  pub accepted_all : Accepted c (accepted c h ss)
  pub ready : Ready sh (state_after sh (state_of sh c h) ss)

-- the second's kinds as a list, its error and T
abbrev pub kind_list : Sheet → Closed → History → Record → List Kind
kind_list sh c h x = three (kinds_at sh c h x).fcr (kinds_at sh c h x).afrr (kinds_at sh c h x).mfrr

abbrev pub error_at : Sheet → Closed → History → Record → ℤ → ℤ → ℤ
error_at sh c h x m w = error_of (shared_difference x m w) (kind_list sh c h x)

abbrev pub total_at : Sheet → Closed → History → Record → ℤ → ℤ → ℕ
total_at sh c h x m w = total_of (shared_difference x m w) (kind_list sh c h x)

-- what holds of an accepted second's row
pub record RowHolds (sh : Sheet) (c : Closed) (h : History) (x : Record) (m w : ℤ) : Type 0 where
  -- the actual values and open make up measured - working point as shared
  pub balance : sum_actuals (kinds_of (row_at sh c h x m w)) +ℤ (row_at sh c h x m w).«open».0 ≡ shared_difference x m w
  -- wherever a kind is on, the actual values do so by themselves, and "all kinds lie within their bands exactly when the error lies within the
  -- summed bands"
  pub whole : some_on (kinds_on (kind_list sh c h x)) ≡ true → sum_actuals (kinds_of (row_at sh c h x m w)) ≡ shared_difference x m w
  pub within : some_on (kinds_on (kind_list sh c h x)) ≡ true → AllInBand (kinds_of (row_at sh c h x m w)) ↔ (nat_abs (error_at sh c h x m w) ≤ total_at sh c h x m w)
  -- where measured - working point, as shared, is within D, no figure is above D and four times the largest reserve
  pub sized : (D : ℕ) → Within D (shared_difference x m w) → SizedRow D (row_at sh c h x m w)

-- 02, W2: 11 "shall now mean FCR only; the same seconds are turned down". Against the number `base` of a second under 01's 11, its number n: one
-- applies exactly where the other does; where the base's is not 11 they are the same, and where it is, n is one of the three.
pub record SameTurnedDown (n base : ℕ) : Type 0 where
  pub same_seconds : (n ≡ 0) ↔ (base ≡ 0)
  pub other_numbers : (base ≡ 11 → ⊥) → n ≡ base
  pub which_kind : base ≡ 11 → (n ≡ 11) ⊎ ((n ≡ 24) ⊎ (n ≡ 25))

-- 02, W3, of the second of bytes s after the closed books c and the seconds h
pub record QuarterHour (sh : Sheet) (c : Closed) (h : History) (s : List ℕ) : Type 0 where
  -- a second that 26 doesn't stop gets the number and the row that the other rules give
  pub other_numbers : (number_at c h s ≡ 26 → ⊥) → number_at c h s ≡ free_number_at c h s
  pub same_answer : (number_at c h s ≡ 26 → ⊥) → (m w : ℤ) → answer_at sh c h s m w ≡ answer_by (free_number_at c h s) (row_at sh c h (record_of s) m w)
  -- 26 applies to none whose kinds are on and off as in the last status, and to none at a multiple of 900
  pub unchanged : bits_of (record_of s).status ≡ bits_of (last_status_of c h) → status_moved (length h) (last_status_of c h) (record_of s).status ≡ false
  pub at_multiples : length h % quarter_hour ≡ 0 → status_moved (length h) (last_status_of c h) (record_of s).status ≡ false

-- a state that no second can leave: every bytes are refused, so every list leaves it as it is
pub record Stuck (c : Closed) (h : History) : Type 0 where
  pub accepted_all : Accepted c h
  pub refuses : (s : List ℕ) → number_at c h s ≡ 0 → ⊥
  pub stays : (ss : List PlantSecond) → accepted c h ss ≡ h

-- the shortest: second 0 with no kind on; second 1 too, with a call to 900 kW until 1,800, accepted as the signal is still 0 there
abbrev pub call_while_off : History
call_while_off = calling 1 (pos 900) 1800 ∷ in_status 0 ∷ []

-- for every sheet in range
pub record Claims (sh : Sheet) : Type 0 where
  -- from a fresh state, and from the one that accepted seconds leave, in this book and in closed ones
  pub every_list : (ss : List PlantSecond) → EveryList sh [] [] ss
  pub lists_after : (c : Closed) (h : History) → Accepted c h → (ss : List PlantSecond) → EveryList sh c h ss
  -- with nothing closed every definition is 01's over the book's own seconds
  pub fresh_book : (h : History) → FreshBook sh h
  -- the state that is handed over is the one of the next book before its second 0, with this book's seconds as its past
  pub handed_over_lem : (c : Closed) (h : History) → handed_over (state_of sh c h) ≡ state_of sh (h ∷ c) []
  -- a list of accepted seconds is cut once, after a multiple of 900: what follows is accepted in the second book too, with the rows of the one book
  pub cut : (early late : History) → length early % quarter_hour ≡ 0 → Accepted [] (late ++ early) → (x : Record) → record_number_at [] (late ++ early) x ≡ 0 → Cut sh early late x
  -- one second at the state that accepted seconds leave
  pub over_past : (c : Closed) (h : History) → Accepted c h → (s : List ℕ) (m w : ℤ) → OverPast sh c h s m w (step_in sh (state_of sh c h) s m w)
  pub row_holds : (c : Closed) (h : History) → Accepted c h → (x : Record) → record_number_at c h x ≡ 0 → (m w : ℤ) → RowHolds sh c h x m w
  -- "A row's figures are signed 32-bit numbers", where sharing adds nothing; a book's rows in `book/Claims`
  pub fits : (c : Closed) (h : History) → Accepted c h → (x : Record) → record_number_at c h x ≡ 0 → Row32 (row_at sh c h x (pos 0) (pos 0))
  -- for every past and every bytes
  pub same_turned_down : (c : Closed) (h : History) (s : List ℕ) → SameTurnedDown (number_at c h s) (base_number_at c h s)
  pub quarter_hour_lem : (c : Closed) (h : History) (s : List ℕ) → QuarterHour sh c h s
  -- "bit 3 is never a kind"
  pub fault_no_kind : (n : ℕ) → bits_of (n + 8) ≡ bits_of n
  pub stuck : Stuck [] call_while_off
  -- it is 26 alone that keeps mFRR from going on there
  pub free_again : first (free_rules_at [] call_while_off (in_status 4)) ≡ 0
