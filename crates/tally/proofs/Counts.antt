-- Counts with a second more, by the side of the band, and counts of fewer seconds. Assumes nothing.
use Rattle.std.proofs.Common.{◌≡◌, ℕ, ◌+◌, ◌≤◌, add-zero, arith}
use Rattle.row.specs.declared.KindRow.{KindRow}
use Rattle.row.specs.declared.side.BandSide.TheVariants.{Within, Below, Above}
use Rattle.row.specs.declared.side.SideCount.{SideCount}
use Rattle.row.specs.declared.side.KindCounts.{KindCounts}
use Rattle.row.specs.declared.side.PlantCounts.{PlantCounts}
use Rattle.row.specs.Side.{side_of}
use Rattle.tally.specs.declared.Tally.{Tally}
use Rattle.tally.specs.Tally.{kind_by, SideWithin, KindWithin, PlantWithin, TallyWithin, SideCounted, KindCounted, zero}

-- ---- of fewer seconds

module _ (t n : ℕ) (h : t ≤ n) where
  side_longer : (c : SideCount) → SideWithin t c → SideWithin n c
  side_longer c w = let f = w.few in let s = w.small in record { few = omega arith; small = omega arith }

  kind_longer : (c : KindCounts) → KindWithin t c → KindWithin n c
  kind_longer c w = record { below = side_longer _ w.below; above = side_longer _ w.above }

  plant_longer : (c : PlantCounts) → PlantWithin t c → PlantWithin n c
  plant_longer c w = record { fcr = kind_longer _ w.fcr; afrr = kind_longer _ w.afrr; mfrr = kind_longer _ w.mfrr }

  pub longer : (q : Tally) → TallyWithin t q → TallyWithin n q
  longer q w = record { unit = plant_longer _ w.unit; a = plant_longer _ w.a; b = plant_longer _ w.b }

-- ---- before the first second

side_none : SideWithin 0 (record { seconds = 0; kw_seconds = 0 })
side_none = record { few = omega arith; small = omega arith }

kind_none : KindWithin 0 (record { below = record { seconds = 0; kw_seconds = 0 }; above = record { seconds = 0; kw_seconds = 0 } })
kind_none = record { below = side_none; above = side_none }

pub none : TallyWithin 0 zero
none =
    record {
      unit = record { fcr = kind_none; afrr = kind_none; mfrr = kind_none };
      a = record { fcr = kind_none; afrr = kind_none; mfrr = kind_none };
      b = record { fcr = kind_none; afrr = kind_none; mfrr = kind_none };
    }

-- ---- a second more

module _ {c : KindCounts} {k : KindRow} where
  pub within : side_of k ≡ Within → KindCounted c k c
  unfolding kind_by
  within e = record { is = rw e (simp add-zero); grows = λ t w. kind_longer t (t + 1) (omega arith) c w }

  pub below : {kw : ℕ} {r : SideCount} → side_of k ≡ Below kw → SideCounted c.below 1 kw r → KindCounted c k (record { below = r; above = c.above })
  unfolding kind_by
  below e f = record { is = rw (e, f.is) (simp add-zero); grows = λ t w. record { below = f.grows t w.below; above = side_longer t (t + 1) (omega arith) _ w.above } }

  pub above : {kw : ℕ} {r : SideCount} → side_of k ≡ Above kw → SideCounted c.above 1 kw r → KindCounted c k (record { below = c.below; above = r })
  unfolding kind_by
  above e f = record { is = rw (e, f.is) (simp add-zero); grows = λ t w. record { below = side_longer t (t + 1) (omega arith) _ w.below; above = f.grows t w.above } }
