-- What holds of an accepted second's rows: sharing, and how large the figures are. Assumes nothing.
use Rattle.std.proofs.Common.{◌≡◌, List, arith, ℕ, pos}
use Rattle.numbers.proofs.Fit.{fit, within_lit}
use Rattle.sheet.specs.declared.Sheet.{Sheet}
use Rattle.sheet.specs.Sheet.{InRange}
use Rattle.record.specs.Record.{record_of}
use Rattle.row.specs.Fits.{Row32}
use Rattle.sharing.specs.Sizes.{SizedRow}
use Rattle.plant.specs.Refusals as plant
use Rattle.plant.specs.Refusals.{most_power}
use Rattle.plant.specs.Seconds as plant-seconds
use Rattle.plant.specs.State.{most_added, AddedWithin}
use Rattle.plant.specs.Claims.{RowHolds}
use Rattle.plant.proofs.Past.{clear}
use Rattle.plant.proofs.Claims.{record_number_lem, row_holds, row_fits, none_added}
use Rattle.book.specs.Seconds.{BookSecond, History, Closed, unit_bytes, past_of, closed_of, due_of}
use Rattle.book.specs.Refusals.{Accepted}
use Rattle.book.specs.Rows.{Pool, pool_a, pool_b, added_to, unit_point, unit_row_at, pool_row_at, a_row_at, b_row_at}
use Rattle.book.specs.State.{most_at_unit, most_at_pool, PowersInRange, Summed}
use Rattle.book.specs.Claims.{PoolHolds, RowsHold}
use Rattle.book.proofs.Sizes.{shared_within, added_small, difference_small}
use Rattle.book.proofs.Past.{Cleared, unit_accepted, a_accepted, b_accepted}

in_range : (c : plant-seconds.Closed) (h : plant-seconds.History) (s : List ℕ) → plant.number_at c h s ≡ 0 → PowersInRange (record_of s)
in_range c h s e =
    let p = (clear c h (record_of s) (record_number_lem c h s e)).passed_1_to_7 in
    record { measured = p.measured; working_point_is = p.working_point_is }

module _ (sh : Sheet) (i : InRange sh) (c : Closed) (h : History) (s : BookSecond) (accepted : Accepted c h) (e : Cleared c h s) where
  unit_holds : RowHolds sh (closed_of unit_bytes c) (past_of unit_bytes h) (record_of (unit_bytes s.bytes)) (pos 0) (pos 0)
  unit_holds = row_holds sh i _ _ (unit_accepted c h accepted) _ (record_number_lem _ _ _ e.unit) (pos 0) (pos 0)

  unit_range : PowersInRange (record_of (unit_bytes s.bytes))
  unit_range = in_range _ _ _ e.unit

  unit_sized : SizedRow most_at_unit (unit_row_at sh c h s)
  unfolding unit_row_at
  unit_sized =
      unit_holds.sized most_at_unit
      (shared_within 0 0 most_at_unit _ (pos 0) (pos 0) (omega arith) unit_range (within_lit 0 (pos 0) tt) (within_lit 0 (pos 0) tt))

  -- what a pool's measured has added is small
  added : (p : Pool) → AddedWithin (added_to p s (unit_row_at sh c h s)) (unit_point s.bytes)
  added p =
      record {
        measured = added_small _ (p.sold s.owner) (unit_row_at sh c h s) unit_range.working_point_is unit_sized;
        working_point_is = unit_range.working_point_is;
      }

  -- a pool's row
  module _ (p : Pool) (ap : plant.Accepted (closed_of p.bytes c) (past_of p.bytes h)) (ep : plant.number_at (closed_of p.bytes c) (past_of p.bytes h) (p.bytes s.bytes) ≡ 0) where
    pool_holds : PoolHolds sh p c h s
    pool_holds = row_holds sh i _ _ ap _ (record_number_lem _ _ _ ep) _ _

    pool_sized : SizedRow most_at_pool (pool_row_at sh p c h s)
    unfolding pool_row_at
    pool_sized =
        pool_holds.sized most_at_pool
        (shared_within most_added most_power most_at_pool _ _ _ (omega arith) (in_range _ _ _ ep) (added p).measured (added p).working_point_is)

    pool_fits : Row32 (pool_row_at sh p c h s)
    unfolding pool_row_at
    pool_fits = row_fits sh i _ _ ap _ (record_number_lem _ _ _ ep) _ _ (added p)

  unit_fits : Row32 (unit_row_at sh c h s)
  unfolding unit_row_at
  unit_fits = row_fits sh i _ _ (unit_accepted c h accepted) _ (record_number_lem _ _ _ e.unit) (pos 0) (pos 0) none_added

  pub rows_hold : RowsHold sh c h s
  rows_hold =
      let a = a_accepted c h accepted in
      let b = b_accepted c h accepted in
      record {
        unit = unit_holds;
        a = pool_holds pool_a a e.a;
        b = pool_holds pool_b b e.b;
        unit_fits = unit_fits;
        a_fits = pool_fits pool_a a e.a;
        b_fits = pool_fits pool_b b e.b;
      }

  pub summed : Summed (unit_row_at sh c h s) (a_row_at sh c h s) (b_row_at sh c h s) (due_of s.bytes)
  unfolding due_of
  summed =
      record {
        unit_sized = unit_sized;
        a_sized = pool_sized pool_a (a_accepted c h accepted) e.a;
        b_sized = pool_sized pool_b (b_accepted c h accepted) e.b;
        due_small =
            let u = difference_small _ unit_range in
            let a = difference_small _ (in_range _ _ _ e.a) in
            let b = difference_small _ (in_range _ _ _ e.b) in
            search fit;
      }
