-- The four sums over the seconds that a book accepted (01, "Book second"), each second with those accepted before it, in this book and in the
-- closed ones c.
use Rattle.std.specs.Prelude.{[], ◌∷◌, ℤ, pos, ◌+ℤ◌}
use Rattle.sheet.specs.declared.Sheet.{Sheet}
use Rattle.row.specs.declared.Row.{Row}
use Rattle.row.specs.declared.sums.KwSeconds.{KwSeconds}
use Rattle.row.specs.declared.sums.Sums.{Sums}
use Rattle.row.specs.Row.{kinds_of, sum_actuals}
use Rattle.book.specs.Seconds.{BookSecond, History, Closed, due_of}
use Rattle.book.specs.Rows.{unit_row_at, a_row_at, b_row_at}

abbrev pub actuals_of : Row → ℤ
actuals_of r = sum_actuals (kinds_of r)

abbrev pub open_of : Row → Row → Row → ℤ
open_of u a b = u.«open».0 +ℤ (a.«open».0 +ℤ b.«open».0)

abbrev pub sum_over : (History → BookSecond → ℤ) → History → ℤ
sum_over f [] = pos 0
sum_over f (s ∷ h) = sum_over f h +ℤ f h s

-- "A adds the actuals of all kinds in A's row, B those in B's row, open the open of every plant's row."
abbrev pub sum_a : Sheet → Closed → History → ℤ
sum_a sh c h = sum_over (λ p s. actuals_of (a_row_at sh c p s)) h

abbrev pub sum_b : Sheet → Closed → History → ℤ
sum_b sh c h = sum_over (λ p s. actuals_of (b_row_at sh c p s)) h

abbrev pub sum_open : Sheet → Closed → History → ℤ
sum_open sh c h = sum_over (λ p s. open_of (unit_row_at sh c p s) (a_row_at sh c p s) (b_row_at sh c p s)) h

-- "Due is read from the bytes of these book seconds"
abbrev pub sum_due : History → ℤ
sum_due h = sum_over (λ p s. due_of s.bytes) h

-- all four, as a book keeps them
abbrev pub kw_seconds : ℤ → KwSeconds
kw_seconds n = record { 0 = n }

unfoldable pub sums_of : Sheet → Closed → History → Sums
sums_of sh c h =
    record { a = kw_seconds (sum_a sh c h); b = kw_seconds (sum_b sh c h); «open» = kw_seconds (sum_open sh c h); due = kw_seconds (sum_due h) }

-- "the kept sums 0"
abbrev pub no_sums : Sums
no_sums = record { a = kw_seconds (pos 0); b = kw_seconds (pos 0); «open» = kw_seconds (pos 0); due = kw_seconds (pos 0) }
