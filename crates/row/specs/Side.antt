-- Where a kind stands to its band: "A kind lies within its band when its actual is in the published band of the same row, ends included" (01,
-- "Sharing"); else how far outside.
use Rattle.std.specs.Prelude.{ℕ, cond, nat_abs, ◌-ℤ◌}
use Rattle.std.specs.Int.Signed.{lt_z}
use Rattle.row.specs.declared.KindRow.{KindRow}
use Rattle.row.specs.declared.side.BandSide.{BandSide}
use Rattle.row.specs.declared.side.BandSide.TheVariants.{Within, Below, Above}

-- below by lower limit less actual, above by actual less upper limit
unfoldable pub side_of : KindRow → BandSide
side_of k =
    cond (lt_z k.actual.0 k.band.low.0)
    (Below (nat_abs (k.band.low.0 -ℤ k.actual.0)))
    (cond (lt_z k.band.high.0 k.actual.0) (Above (nat_abs (k.actual.0 -ℤ k.band.high.0))) Within)

-- how many kW below its band a kind stands, and how many above, 0 where it doesn't
abbrev pub kw_below : BandSide → ℕ
kw_below Within = 0
kw_below (Below n) = n
kw_below (Above n) = 0

abbrev pub kw_above : BandSide → ℕ
kw_above Within = 0
kw_above (Below n) = 0
kw_above (Above n) = n

-- 1 for a second below its band, and 1 for one above
abbrev pub once_below : BandSide → ℕ
once_below Within = 0
once_below (Below n) = 1
once_below (Above n) = 0

abbrev pub once_above : BandSide → ℕ
once_above Within = 0
once_above (Below n) = 0
once_above (Above n) = 1
