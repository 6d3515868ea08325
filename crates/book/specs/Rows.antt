-- A book second over the past: the rows of U, A and B, or the first refusal number that applies (01, "Book second").
use Rattle.std.specs.Prelude.{ℕ, zero, suc, Bool, not, cond, List, ◌++◌, ℤ, pos, ◌+ℤ◌}
use Rattle.sheet.specs.declared.Sheet.{Sheet}
use Rattle.record.specs.declared.KindBits.{KindBits}
use Rattle.record.specs.Record.{record_of, bits_of}
use Rattle.row.specs.declared.KindRow.{KindRow}
use Rattle.row.specs.declared.Row.{Row}
use Rattle.plant.specs.Rows as plant
use Rattle.book.specs.declared.Plant.{Plant}
use Rattle.book.specs.declared.Plant.TheVariants.{U, A, B}
use Rattle.book.specs.Answers.{BookAnswer, Rows, Refused, RefusedBy}
use Rattle.book.specs.Seconds.{BookSecond, History, Closed, unit_bytes, a_bytes, b_bytes, past_of, closed_of}
use Rattle.book.specs.Refusals.{form_number, unit_number, a_number, b_number}

-- ---- the unit's values

-- the actual values at U of the kinds with their bit set
abbrev pub value_if : Bool → KindRow → ℤ
value_if sold k = cond sold k.actual.0 (pos 0)

unfoldable pub values_of : KindBits → Row → ℤ
values_of b r = value_if b.fcr r.fcr +ℤ (value_if b.afrr r.afrr +ℤ value_if b.mfrr r.mfrr)

abbrev pub others : KindBits → KindBits
others b = record { fcr = not b.fcr; afrr = not b.afrr; mfrr = not b.mfrr }

-- "An owner byte, bits as in status, says who sells each kind at U: 0 = A, 1 = B."
abbrev pub sold_by_a : ℕ → KindBits
sold_by_a o = others (bits_of o)

abbrev pub sold_by_b : ℕ → KindBits
sold_by_b o = bits_of o

-- ---- the rows of second s after the closed books c and the seconds h

unfoldable pub unit_row_at : Sheet → Closed → History → BookSecond → Row
unit_row_at sh c h s = plant.row_at sh (closed_of unit_bytes c) (past_of unit_bytes h) (record_of (unit_bytes s.bytes)) (pos 0) (pos 0)

-- the unit's working point
abbrev pub unit_point : List ℕ → ℤ
unit_point s = (record_of (unit_bytes s)).working_point.0

-- ---- a pool

-- where its own record stands, and for an owner byte the kinds that it sells at U
pub record Pool : Type 0 where
  pub bytes : List ℕ → List ℕ
  pub sold : ℕ → KindBits

abbrev pub pool_a : Pool
pool_a = record { bytes = a_bytes; sold = sold_by_a }

abbrev pub pool_b : Pool
pool_b = record { bytes = b_bytes; sold = sold_by_b }

-- "For sharing, the unit's working point is added to A's working point, and the unit's working point plus A's unit values to A's measured. B
-- likewise." Here u is the unit's row
abbrev pub added_to : Pool → BookSecond → Row → ℤ
added_to p s u = unit_point s.bytes +ℤ values_of (p.sold s.owner) u

unfoldable pub pool_row_at : Sheet → Pool → Closed → History → BookSecond → Row
pool_row_at sh p c h s =
    plant.row_at sh (closed_of p.bytes c) (past_of p.bytes h) (record_of (p.bytes s.bytes)) (added_to p s (unit_row_at sh c h s)) (unit_point s.bytes)

abbrev pub a_row_at : Sheet → Closed → History → BookSecond → Row
a_row_at sh c h s = pool_row_at sh pool_a c h s

abbrev pub b_row_at : Sheet → Closed → History → BookSecond → Row
b_row_at sh c h s = pool_row_at sh pool_b c h s

-- ---- the answer

-- "gives number and plant"
abbrev pub answer_by : ℕ → ℕ → ℕ → ℕ → Row → Row → Row → BookAnswer
answer_by (suc n) nu na nb u a b = Refused (suc n)
answer_by zero (suc n) na nb u a b = RefusedBy U (suc n)
answer_by zero zero (suc n) nb u a b = RefusedBy A (suc n)
answer_by zero zero zero (suc n) u a b = RefusedBy B (suc n)
answer_by zero zero zero zero u a b = Rows u a b

unfoldable pub answer_at : Sheet → Closed → History → BookSecond → BookAnswer
answer_at sh c h s =
    answer_by (form_number s) (unit_number c h s) (a_number c h s) (b_number c h s) (unit_row_at sh c h s) (a_row_at sh c h s) (b_row_at sh c h s)

-- ---- the answer in 01's terms

-- "A book second's row is the rows of U, A and B": their figures; or a number that names no plant; or a number and the plant
pub data Said : Type 0 where
  figures : List ℤ → Said
  refused : ℕ → Said
  refused_by : Plant → ℕ → Said

abbrev pub book_figures : Row → Row → Row → List ℤ
book_figures u a b = plant.figures_of u ++ (plant.figures_of a ++ plant.figures_of b)

-- what is said of second s after the closed books c and the seconds h
abbrev pub said_by : ℕ → ℕ → ℕ → ℕ → List ℤ → Said
said_by (suc n) nu na nb fs = refused (suc n)
said_by zero (suc n) na nb fs = refused_by U (suc n)
said_by zero zero (suc n) nb fs = refused_by A (suc n)
said_by zero zero zero (suc n) fs = refused_by B (suc n)
said_by zero zero zero zero fs = figures fs

abbrev pub said_at : Sheet → Closed → History → BookSecond → Said
said_at sh c h s =
    said_by (form_number s) (unit_number c h s) (a_number c h s) (b_number c h s) (book_figures (unit_row_at sh c h s) (a_row_at sh c h s) (b_row_at sh c h s))

-- what each case of the answer says, and its number, 0 with rows
abbrev pub says : BookAnswer → Said
says (Rows u a b) = figures (book_figures u a b)
says (Refused n) = refused n
says (RefusedBy p n) = refused_by p n

abbrev pub number_in : BookAnswer → ℕ
number_in (Rows u a b) = 0
number_in (Refused n) = n
number_in (RefusedBy p n) = n
