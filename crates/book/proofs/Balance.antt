-- One accepted second: A's and B's values and what is open make up what is due. Assumes nothing.
use Rattle.std.proofs.Common.{◌≡◌, Bool, true, false, not, arith, ℤ, pos, ◌+ℤ◌}
use Rattle.std.proofs.Math.IntN.{+ℤ_idl, +ℤ_idr}
use Rattle.std.proofs.lemmas.Int.{ints}
use Rattle.sheet.specs.declared.Sheet.{Sheet}
use Rattle.sheet.specs.Sheet.{InRange}
use Rattle.record.specs.declared.KindBits.{KindBits}
use Rattle.record.specs.Record.{record_of, bits_of}
use Rattle.row.specs.declared.KindRow.{KindRow}
use Rattle.row.specs.declared.Row.{Row}
use Rattle.record.specs.declared.Record.{Record}
use Rattle.plant.specs.Rows.{shared_difference}
use Rattle.book.specs.Seconds.{BookSecond, History, Closed, unit_bytes, a_bytes, b_bytes, difference, due_of}
use Rattle.book.specs.Refusals.{Accepted}
use Rattle.book.specs.Rows.{value_if, values_of, others, sold_by_a, sold_by_b, unit_row_at, pool_row_at, a_row_at, b_row_at}
use Rattle.book.specs.Sums.{actuals_of, open_of}
use Rattle.book.proofs.Past.{Cleared}
use Rattle.book.proofs.Holds.{rows_hold}

-- ---- what one provider sells and what the other sells is all

one_kind : (t : Bool) (k : KindRow) → value_if (not t) k +ℤ value_if t k ≡ k.actual.0
one_kind true k = +ℤ_idl k.actual.0
one_kind false k = +ℤ_idr k.actual.0

both : (b : KindBits) (r : Row) → values_of (others b) r +ℤ values_of b r ≡ actuals_of r
unfolding values_of
both b r = omega (arith, ints, one_kind b.fcr r.fcr, one_kind b.afrr r.afrr, one_kind b.mfrr r.mfrr)

-- ---- the three plants

-- the rows u, a and b of the records x, y and z, where v and t are the values of A and B at the unit
three_plants :
    (u a b : Row) (x y z : Record) (v t : ℤ) →
    v +ℤ t ≡ actuals_of u →
    actuals_of u +ℤ u.«open».0 ≡ shared_difference x (pos 0) (pos 0) →
    actuals_of a +ℤ a.«open».0 ≡ shared_difference y (x.working_point.0 +ℤ v) x.working_point.0 →
    actuals_of b +ℤ b.«open».0 ≡ shared_difference z (x.working_point.0 +ℤ t) x.working_point.0 →
    actuals_of a +ℤ actuals_of b +ℤ open_of u a b ≡ difference x +ℤ (difference y +ℤ difference z)
three_plants u a b x y z v t p q r s = omega (arith, ints)

pub second_balance :
    (sh : Sheet) → InRange sh → (c : Closed) (h : History) (s : BookSecond) →
    Accepted c h →
    Cleared c h s →
    actuals_of (a_row_at sh c h s) +ℤ actuals_of (b_row_at sh c h s) +ℤ open_of (unit_row_at sh c h s) (a_row_at sh c h s) (b_row_at sh c h s) ≡ due_of s.bytes
unfolding due_of unit_row_at pool_row_at
second_balance sh i c h s a e =
    let r = rows_hold sh i c h s a e in
    let v = values_of (sold_by_a s.owner) (unit_row_at sh c h s) in
    let o = values_of (sold_by_b s.owner) (unit_row_at sh c h s) in
    three_plants (unit_row_at sh c h s) (a_row_at sh c h s) (b_row_at sh c h s)
    (record_of (unit_bytes s.bytes)) (record_of (a_bytes s.bytes)) (record_of (b_bytes s.bytes))
    v o (both (bits_of s.owner) (unit_row_at sh c h s)) r.unit.balance r.a.balance r.b.balance
