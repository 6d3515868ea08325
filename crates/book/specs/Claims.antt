-- Demand 3 whole, as one claim about every list of book seconds from a fresh book, and about every chain of lists and handovers; and a list cut once.
-- The proof is `book_claims` of proofs/Claims.antt.
use Rattle.std.specs.Prelude.{◌≡◌, List, [], ◌∷◌, ◌++◌, ◌%◌, pos, ◌+ℤ◌, length}
use Rattle.sheet.specs.declared.Sheet.{Sheet}
use Rattle.mfrr.specs.Signal.{quarter_hour}
use Rattle.record.specs.Record.{record_of}
use Rattle.row.specs.Fits.{Row32, Sums64}
use Rattle.plant.specs.Claims.{RowHolds}
use Rattle.book.specs.declared.Book.{Book}
use Rattle.book.specs.Answers.{Rows}
use Rattle.book.specs.Seconds.{BookSecond, History, Closed, unit_bytes, past_of, closed_of}
use Rattle.book.specs.Refusals.{number_at, Accepted, grown}
use Rattle.book.specs.Rows.{Pool, pool_a, pool_b, added_to, unit_point, unit_row_at, a_row_at, b_row_at}
use Rattle.book.specs.Sums.{sum_a, sum_b, sum_open, sum_due}
use Rattle.book.specs.HandOver.{hand_over_in, closed_handed, past_handed, AtHandOver}
use Rattle.book.specs.State.{fresh, state_of, OverPast, step_in}
use Rattle.book.specs.Run.{book_after, accepted}
use Rattle.book.specs.Cut.{Cut}
use Rattle.book.specs.Fresh.{FreshBook}

-- what holds of a pool's row in second s after the closed books c and the seconds h
abbrev pub PoolHolds : Sheet → Pool → Closed → History → BookSecond → Type 0
PoolHolds sh p c h s =
    RowHolds sh (closed_of p.bytes c) (past_of p.bytes h) (record_of (p.bytes s.bytes)) (added_to p s (unit_row_at sh c h s)) (unit_point s.bytes)

-- of the rows of an accepted second
pub record RowsHold (sh : Sheet) (c : Closed) (h : History) (s : BookSecond) : Type 0 where
  -- among it, "wherever a kind is on, all kinds lie within their bands exactly when the error lies within the summed bands"
  pub unit : RowHolds sh (closed_of unit_bytes c) (past_of unit_bytes h) (record_of (unit_bytes s.bytes)) (pos 0) (pos 0)
  pub a : PoolHolds sh pool_a c h s
  pub b : PoolHolds sh pool_b c h s
  -- "A row's figures are signed 32-bit numbers", which is what `line/Claims` asks for "200 bytes always suffice"
  pub unit_fits : Row32 (unit_row_at sh c h s)
  pub a_fits : Row32 (a_row_at sh c h s)
  pub b_fits : Row32 (b_row_at sh c h s)

-- second s of the list, at the book k, where h are the seconds accepted before it
pub record AtSecond (sh : Sheet) (k : Book) (c : Closed) (h : History) (s : BookSecond) : Type 0 where
  -- the book is the one that the accepted seconds leave: each plant's state that of its own
  pub past : k ≡ state_of sh c h
  -- the answer is the one over the past
  pub over : OverPast sh c h s (step_in k s)
  -- with no number it is the rows, each that of the plant's own second over its own past
  pub accepted_rows : number_at c h s ≡ 0 → (step_in k s).answer ≡ Rows (unit_row_at sh c h s) (a_row_at sh c h s) (b_row_at sh c h s)
  pub rows_hold : number_at c h s ≡ 0 → RowsHold sh c h s
  -- a refused second leaves the book as it was
  pub refused_same : (number_at c h s ≡ 0 → ⊥) → (step_in k s).book ≡ k

-- at every second of a list
abbrev pub EachSecond : Sheet → Book → Closed → History → List BookSecond → Type 0
EachSecond sh k c h [] = Unit
EachSecond sh k c h (s ∷ ss) = AtSecond sh k c h s × EachSecond sh (step_in k s).book c (grown c h s) ss

-- of a list whose accepted seconds are h, where k is the book after it and c are the closed ones before it
pub record Balanced (sh : Sheet) (c : Closed) (h : History) (k : Book) : Type 0 where
  -- "A + B + open = due, and the sums kept for the sum line equal these four"
  pub balance : sum_a sh c h +ℤ sum_b sh c h +ℤ sum_open sh c h ≡ sum_due h
  pub kept_a : k.sums.a.0 ≡ sum_a sh c h
  pub kept_b : k.sums.b.0 ≡ sum_b sh c h
  pub kept_open : k.sums.«open».0 ≡ sum_open sh c h
  pub kept_due : k.sums.due.0 ≡ sum_due h
  -- "the four sums 64-bit ones"
  pub sums_fit : Sums64 k.sums
  -- what the last second of the list leaves
  pub last : k ≡ state_of sh c h
  pub accepted_all : Accepted c h

-- of a list ss that comes to the book k, where h are the seconds that it accepted before, after the closed books c
pub record ListHolds (sh : Sheet) (k : Book) (c : Closed) (h : History) (ss : List BookSecond) : Type 0 where
  pub balanced : Balanced sh c (accepted c h ss) (book_after k ss)
  pub each : EachSecond sh k c h ss

abbrev pub Claims : Sheet → List BookSecond → Type 0
Claims sh ss = ListHolds sh (fresh sh) [] [] ss

-- ---- a chain of lists, the book handed over after each

-- a chain of lists and handovers (D56): after each list, which may be empty, comes a handover; one that is refused leaves the book as it was
abbrev pub ChainHolds : Sheet → Book → Closed → History → List (List BookSecond) → Type 0
ChainHolds sh k c h [] = Unit
ChainHolds sh k c h (ss ∷ chain) =
    ListHolds sh k c h ss
    × AtHandOver sh (book_after k ss) c (accepted c h ss)
    × ChainHolds sh (hand_over_in (book_after k ss)).book (closed_handed c (accepted c h ss)) (past_handed (accepted c h ss)) chain

-- ---- all of it

-- for every sheet in range
pub record BookClaims (sh : Sheet) : Type 0 where
  pub every_list : (ss : List BookSecond) → Claims sh ss
  -- from a fresh book
  pub every_chain : (chain : List (List BookSecond)) → ChainHolds sh (fresh sh) [] [] chain
  -- with nothing closed each is 01's over the book's own seconds; what is shared and refused there is said of a plant (`fresh_book` of plant/specs/Claims.antt)
  pub fresh_book : (h : History) → FreshBook sh h
  -- "Say a list of accepted seconds .. is cut once, after a multiple of 900": whatever its owner bytes; that it has at most 90,000 follows from 1
  pub every_cut : (early late : History) → length early % quarter_hour ≡ 0 → Accepted [] (late ++ early) → Cut sh early late
