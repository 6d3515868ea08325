-- A second's figures and their sums are small enough. Assumes nothing.
use Rattle.std.proofs.Common.{◌≡◌, Bool, true, false, ℕ, ◌+◌, ◌*◌, ◌≤◌, zero-le, mul-le-mul_right, arith, ℤ, pos, ◌+ℤ◌, w32, w64, SFits}
use Rattle.std.proofs.lemmas.Int.{ints}
use Rattle.numbers.specs.Bounds.{Within}
use Rattle.numbers.proofs.Fit.{fit}
use Rattle.power.specs.Units.{most_reserve}
use Rattle.record.specs.declared.KindBits.{KindBits}
use Rattle.record.specs.declared.Record.{Record}
use Rattle.row.specs.declared.KindRow.{KindRow}
use Rattle.row.specs.declared.Row.{Row}
use Rattle.row.specs.declared.sums.Sums.{Sums}
use Rattle.row.specs.Fits.{Sums64}
use Rattle.record.specs.Record.{most_seconds}
use Rattle.plant.specs.Refusals.{most_power}
use Rattle.plant.specs.State.{most_added}
use Rattle.plant.specs.Rows.{shared_difference}
use Rattle.sharing.specs.Sizes.{SizedRow}
use Rattle.book.specs.Seconds.{difference}
use Rattle.book.specs.Rows.{value_if, values_of}
use Rattle.book.specs.Sums.{kw_seconds, actuals_of, open_of}
use Rattle.book.specs.State.{most_at_unit, most_at_pool, most_values, most_in_second, sums_with, SumsReady, PowersInRange, Summed}

three : (B C : ℕ) (x y z : ℤ) → 3 * B ≤ C → Within B x → Within B y → Within B z → Within C (x +ℤ (y +ℤ z))
three B C x y z h p q r = record { within = omega (arith, ints) }

-- ---- the unit's values

-- an actual value at the unit
abbrev most_actual : ℕ
most_actual = most_at_unit + 4 * most_reserve

value : (t : Bool) (k : KindRow) → Within most_actual k.actual.0 → Within most_actual (value_if t k)
value true k h = h
value false k h = search fit

pub values_small : (b : KindBits) (r : Row) → SizedRow most_at_unit r → Within most_values (values_of b r)
unfolding values_of
values_small b r s =
    three most_actual most_values _ _ _ (omega arith) (value b.fcr r.fcr s.fcr.actual) (value b.afrr r.afrr s.afrr.actual) (value b.mfrr r.mfrr s.mfrr.actual)

-- what a pool's measured has added: the unit's working point and the pool's own values there
pub added_small : (p : ℤ) (b : KindBits) (r : Row) → Within most_power p → SizedRow most_at_unit r → Within most_added (p +ℤ values_of b r)
added_small p b r w s = let v = values_small b r s in record { within = omega (arith, ints) }

pub added_fits : (p v : ℤ) (b : KindBits) (r : Row) → v ≡ values_of b r → Within most_power p → SizedRow most_at_unit r → SFits w32 (p +ℤ v)
added_fits p v b r e w s = rw e (let l = added_small p b r w s in search fit)

-- measured - working point of a record as shared, where sharing adds m and w
pub shared_within : (M W D : ℕ) (x : Record) (m w : ℤ) → most_power + M + (most_power + W) ≤ D → PowersInRange x → Within M m → Within W w → Within D (shared_difference x m w)
shared_within M W D x m w h r p q =
    record { within = omega (arith, ints) }

-- ---- what is added to the sums

pub actuals_small : (r : Row) → SizedRow most_at_pool r → Within most_in_second (actuals_of r)
actuals_small r s =
    record { within = omega (arith, ints, s.fcr.actual.within, s.afrr.actual.within, s.mfrr.actual.within) }

pub open_small : (u a b : Row) → SizedRow most_at_unit u → SizedRow most_at_pool a → SizedRow most_at_pool b → Within most_in_second (open_of u a b)
open_small u a b p q r =
    record { within = omega (arith, ints) }

pub difference_small : (x : Record) → PowersInRange x → Within most_at_unit (difference x)
difference_small x r = record { within = omega (arith, ints) }

-- ---- the sums

pub sums_none : (n : ℕ) → SumsReady n (record { a = kw_seconds (pos 0); b = kw_seconds (pos 0); «open» = kw_seconds (pos 0); due = kw_seconds (pos 0) })
sums_none n = record { a = none; b = none; «open» = none; due = none }
  where
    none : Within (n * most_in_second) (pos 0)
    none = record { within = zero-le }

longer : (n m : ℕ) (z : ℤ) → n ≤ m → Within (n * most_in_second) z → Within (m * most_in_second) z
longer n m z h p = record { within = omega (arith, p.within, mul-le-mul_right most_in_second h) }

pub sums_fit : (n : ℕ) (q : Sums) → n ≤ most_seconds → SumsReady n q → Sums64 q
sums_fit n q h r = record { a = fits r.a; b = fits r.b; «open» = fits r.«open»; due = fits r.due }
  where
    fits : {z : ℤ} → Within (n * most_in_second) z → SFits w64 z
    fits {z} w = let l = longer n most_seconds z h w in search fit

pub sums_longer : (n m : ℕ) (q : Sums) → n ≤ m → SumsReady n q → SumsReady m q
sums_longer n m q h r =
    record { a = longer n m _ h r.a; b = longer n m _ h r.b; «open» = longer n m _ h r.«open»; due = longer n m _ h r.due }

module _ (n : ℕ) (q : Sums) (u a b : Row) (d : ℤ) (r : SumsReady n q) (s : Summed u a b d) where
  added : (x y : ℤ) → Within (n * most_in_second) x → Within most_in_second y → Within ((n + 1) * most_in_second) (x +ℤ y)
  added x y p k = record { within = omega (arith, ints) }

  pub sums_more : SumsReady (n + 1) (sums_with q u a b d)
  unfolding sums_with
  sums_more =
      record {
        a = search (added, actuals_small);
        b = search (added, actuals_small);
        «open» = added _ _ r.«open» (open_small u a b s.unit_sized s.a_sized s.b_sized);
        due = added _ _ r.due s.due_small;
      }
