-- The counts of seconds and kW outside the band, with a second more. Over the past they are sums (report/specs/Counts.antt).
use Rattle.std.specs.Prelude.{◌≡◌, ℕ, ◌+◌, ◌*◌, ◌≤◌}
use Rattle.row.specs.declared.KindRow.{KindRow}
use Rattle.row.specs.declared.Row.{Row}
use Rattle.row.specs.declared.side.BandSide.{BandSide}
use Rattle.row.specs.declared.side.SideCount.{SideCount}
use Rattle.row.specs.declared.side.KindCounts.{KindCounts}
use Rattle.row.specs.declared.side.PlantCounts.{PlantCounts}
use Rattle.row.specs.Side.{side_of, once_below, once_above, kw_below, kw_above}
use Rattle.tally.specs.declared.Tally.{Tally}

-- ---- a second more

abbrev pub side_count : ℕ → ℕ → SideCount
side_count n kw = record { seconds = n; kw_seconds = kw }

abbrev pub side_with : SideCount → ℕ → ℕ → SideCount
side_with c n kw = side_count (c.seconds + n) (c.kw_seconds + kw)

unfoldable pub kind_by : KindCounts → BandSide → KindCounts
kind_by c s = record { below = side_with c.below (once_below s) (kw_below s); above = side_with c.above (once_above s) (kw_above s) }

abbrev pub kind_with : KindCounts → KindRow → KindCounts
kind_with c k = kind_by c (side_of k)

abbrev pub plant_with : PlantCounts → Row → PlantCounts
plant_with c x = record { fcr = kind_with c.fcr x.fcr; afrr = kind_with c.afrr x.afrr; mfrr = kind_with c.mfrr x.mfrr }

unfoldable pub tally_with : Tally → Row → Row → Row → Tally
tally_with q u a b = record { unit = plant_with q.unit u; a = plant_with q.a a; b = plant_with q.b b }

-- ---- before the first second

abbrev pub no_kind : KindCounts
no_kind = record { below = side_count 0 0; above = side_count 0 0 }

abbrev pub no_plant : PlantCounts
no_plant = record { fcr = no_kind; afrr = no_kind; mfrr = no_kind }

abbrev pub zero : Tally
zero = record { unit = no_plant; a = no_plant; b = no_plant }

-- ---- what the operations ask and answer

-- no 32-bit number is this far from another
abbrev pub most_kw : ℕ
most_kw = 4294967296

-- counts of t seconds
pub record SideWithin (t : ℕ) (c : SideCount) : Type 0 where
  pub few : c.seconds ≤ t
  pub small : c.kw_seconds ≤ t * most_kw

pub record KindWithin (t : ℕ) (c : KindCounts) : Type 0 where
  pub below : SideWithin t c.below
  pub above : SideWithin t c.above

pub record PlantWithin (t : ℕ) (c : PlantCounts) : Type 0 where
  pub fcr : KindWithin t c.fcr
  pub afrr : KindWithin t c.afrr
  pub mfrr : KindWithin t c.mfrr

pub record TallyWithin (t : ℕ) (q : Tally) : Type 0 where
  pub unit : PlantWithin t q.unit
  pub a : PlantWithin t q.a
  pub b : PlantWithin t q.b

-- the counts with a second more; where they were those of t seconds, they are then those of t + 1
pub record SideCounted (c : SideCount) (n kw : ℕ) (r : SideCount) : Type 0 where
  pub is : r ≡ side_with c n kw
  pub grows : (t : ℕ) → SideWithin t c → SideWithin (t + 1) r

pub record KindCounted (c : KindCounts) (k : KindRow) (r : KindCounts) : Type 0 where
  pub is : r ≡ kind_with c k
  pub grows : (t : ℕ) → KindWithin t c → KindWithin (t + 1) r

pub record PlantCounted (c : PlantCounts) (x : Row) (r : PlantCounts) : Type 0 where
  pub is : r ≡ plant_with c x
  pub grows : (t : ℕ) → PlantWithin t c → PlantWithin (t + 1) r

pub record TallyCounted (q : Tally) (u a b : Row) (r : Tally) : Type 0 where
  pub is : r ≡ tally_with q u a b
  pub grows : (t : ℕ) → TallyWithin t q → TallyWithin (t + 1) r
