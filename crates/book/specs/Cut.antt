-- A list of accepted seconds cut once (02, W7): "the two books' rows, with call times moved likewise, are those of the one book, and their sums add up
-- to its sums." It is claimed in `BookClaims` of specs/Claims.antt.
use Rattle.std.specs.Prelude.{ℕ, ◌≡◌, List, [], ◌∷◌, ◌++◌, map, ◌+ℤ◌, length}
use Rattle.sheet.specs.declared.Sheet.{Sheet}
use Rattle.record.specs.Record.{moved_back}
use Rattle.book.specs.declared.BookRows.{BookRows}
use Rattle.book.specs.Seconds.{BookSecond, History, Closed, unit_bytes, a_bytes, b_bytes}
use Rattle.book.specs.Refusals.{Accepted}
use Rattle.book.specs.Rows.{unit_row_at, a_row_at, b_row_at}
use Rattle.book.specs.Sums.{sum_a, sum_b, sum_open, sum_due}

-- the bytes of a book second with the delivery ends of U's, A's and B's calls moved back by n seconds
abbrev pub bytes_back : ℕ → List ℕ → List ℕ
bytes_back n s = moved_back n (unit_bytes s) ++ (moved_back n (a_bytes s) ++ moved_back n (b_bytes s))

abbrev pub earlier : ℕ → BookSecond → BookSecond
earlier n s = record { owner = s.owner; bytes = bytes_back n s.bytes }

-- "A book second's row is the rows of U, A and B"; those of a book's accepted seconds, newest first
abbrev pub rows_of : Sheet → Closed → History → List BookRows
rows_of sh c [] = []
rows_of sh c (s ∷ h) = record { unit = unit_row_at sh c h s; a = a_row_at sh c h s; b = b_row_at sh c h s } ∷ rows_of sh c h

-- the second book's own seconds, where `early` are the first one's and `late` those that follow them in the one book, both newest first
abbrev pub cut_off : History → History → History
cut_off early late = map (earlier (length early)) late

pub record Cut (sh : Sheet) (early late : History) : Type 0 where
  -- all are accepted in the two books too
  pub first : Accepted [] early
  pub second : Accepted (early ∷ []) (cut_off early late)
  pub rows : rows_of sh (early ∷ []) (cut_off early late) ++ rows_of sh [] early ≡ rows_of sh [] (late ++ early)
  pub a : sum_a sh [] early +ℤ sum_a sh (early ∷ []) (cut_off early late) ≡ sum_a sh [] (late ++ early)
  pub b : sum_b sh [] early +ℤ sum_b sh (early ∷ []) (cut_off early late) ≡ sum_b sh [] (late ++ early)
  pub «open» : sum_open sh [] early +ℤ sum_open sh (early ∷ []) (cut_off early late) ≡ sum_open sh [] (late ++ early)
  pub due : sum_due early +ℤ sum_due (cut_off early late) ≡ sum_due (late ++ early)
