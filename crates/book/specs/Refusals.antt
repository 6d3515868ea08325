-- When a book second is turned down (01, "When a book is turned down").
use Rattle.std.specs.Prelude.{ℕ, zero, suc, ◌%◌, ◌≡◌, List, [], ◌∷◌, ltb, length}
use Rattle.numbers.specs.Rules.{Rule, refuse, first, differ, or_else}
use Rattle.record.specs.Record.{book_size, all_kinds}
use Rattle.mfrr.specs.Signal.{quarter_hour}
use Rattle.plant.specs.Refusals as plant
use Rattle.book.specs.Seconds.{BookSecond, History, Closed, unit_bytes, a_bytes, b_bytes, past_of, closed_of}

-- "a book second not of 108, gets 12 before all else. The book second then gives 16 for an owner above 7; neither names a plant."
abbrev pub form_rules : BookSecond → List Rule
form_rules s = refuse 12 (differ (length s.bytes) book_size) ∷ refuse 16 (ltb all_kinds s.owner) ∷ []

unfoldable pub form_number : BookSecond → ℕ
form_number s = first (form_rules s)

-- "Next it checks U, A, B wholly in that order"
abbrev pub unit_number : Closed → History → BookSecond → ℕ
unit_number c h s = plant.number_at (closed_of unit_bytes c) (past_of unit_bytes h) (unit_bytes s.bytes)

abbrev pub a_number : Closed → History → BookSecond → ℕ
a_number c h s = plant.number_at (closed_of a_bytes c) (past_of a_bytes h) (a_bytes s.bytes)

abbrev pub b_number : Closed → History → BookSecond → ℕ
b_number c h s = plant.number_at (closed_of b_bytes c) (past_of b_bytes h) (b_bytes s.bytes)

-- the first number that applies, 0 where the second is accepted after the closed books c and the seconds h
unfoldable pub number_at : Closed → History → BookSecond → ℕ
number_at c h s = or_else (form_number s) (or_else (unit_number c h s) (or_else (a_number c h s) (b_number c h s)))

-- ---- what is accepted

-- every second of h was accepted after those before it, where P is said of the closed books c
abbrev pub AcceptedAfter : Type 0 → Closed → History → Type 0
AcceptedAfter P c [] = P
AcceptedAfter P c (s ∷ h) = (number_at c h s ≡ 0) × AcceptedAfter P c h

-- every closed book was, and its length is "a multiple of 900" (02, W7)
unfoldable pub AllClosed : Closed → Type 0
AllClosed [] = Unit
AllClosed (h ∷ c) = (length h % quarter_hour ≡ 0) × AcceptedAfter (AllClosed c) c h

unfoldable pub Accepted : Closed → History → Type 0
Accepted c h = AcceptedAfter (AllClosed c) c h

-- the accepted seconds after this one: a refusal "changes none"
abbrev pub grown_by : ℕ → BookSecond → History → History
grown_by zero s h = s ∷ h
grown_by (suc n) s h = h

unfoldable pub grown : Closed → History → BookSecond → History
grown c h s = grown_by (number_at c h s) s h
