-- The book second's bytes (01, "Book second"): U, A and B, 36 bytes each.
use Rattle.std.specs.Prelude.{ℕ, ◌*◌, List, map, ℤ, ◌+ℤ◌, ◌-ℤ◌, take, drop}
use Rattle.record.specs.declared.Record.{Record}
use Rattle.record.specs.Record.{size, record_of}
use Rattle.plant.specs.Seconds as plant

-- "book seconds, each with any owner byte and any bytes"
pub record BookSecond : Type 0 where
  pub owner : ℕ
  pub bytes : List ℕ

-- the seconds that a book accepted so far, newest first
abbrev pub History : Type 0
History = List BookSecond

-- the books closed before it (02, W7), newest first, each with its own seconds; before a fresh book there are none
abbrev pub Closed : Type 0
Closed = List History

abbrev pub unit_bytes : List ℕ → List ℕ
unit_bytes s = take size s

abbrev pub a_bytes : List ℕ → List ℕ
a_bytes s = take size (drop size s)

abbrev pub b_bytes : List ℕ → List ℕ
b_bytes s = take size (drop (2 * size) s)

-- a plant's own accepted seconds
abbrev pub past_of : (List ℕ → List ℕ) → History → plant.History
past_of part h = map (λ (s : BookSecond). record_of (part s.bytes)) h

-- and those of the closed books
abbrev pub closed_of : (List ℕ → List ℕ) → Closed → plant.Closed
closed_of part c = map (past_of part) c

-- "measured - working point of U, A and B, each plant's record once"
abbrev pub difference : Record → ℤ
difference x = x.measured.0 -ℤ x.working_point.0

abbrev pub due_from : List ℕ → List ℕ → List ℕ → ℤ
due_from u a b = difference (record_of u) +ℤ (difference (record_of a) +ℤ difference (record_of b))

unfoldable pub due_of : List ℕ → ℤ
due_of s = due_from (unit_bytes s) (a_bytes s) (b_bytes s)
