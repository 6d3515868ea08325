-- How wide figures are (01, "When a book is turned down"): "A row's figures are signed 32-bit numbers and the four sums 64-bit ones". Those of
-- the rounding and T have no sign.
use Rattle.std.specs.Int.{w32, w64}
use Rattle.std.proofs.Common.{Fits, SFits}
use Rattle.row.specs.declared.Rounding.{Rounding}
use Rattle.row.specs.declared.KindRow.{KindRow}
use Rattle.row.specs.declared.Row.{Row}
use Rattle.row.specs.declared.sums.Sums.{Sums}

pub record Rounding32 (x : Rounding) : Type 0 where
  pub tolerance : Fits w32 x.tolerance
  pub floor : Fits w32 x.floor
  pub remainder : Fits w32 x.remainder
  pub extra : Fits w32 x.extra

pub record Kind32 (k : KindRow) : Type 0 where
  pub setpoint : SFits w32 k.setpoint.0
  pub low : SFits w32 k.band.low.0
  pub high : SFits w32 k.band.high.0
  pub share : SFits w32 k.share.0
  pub actual : SFits w32 k.actual.0
  pub rounding : Rounding32 k.rounding

pub record Row32 (x : Row) : Type 0 where
  pub fcr : Kind32 x.fcr
  pub afrr : Kind32 x.afrr
  pub mfrr : Kind32 x.mfrr
  pub «open» : SFits w32 x.«open».0
  pub error : SFits w32 x.error.0
  pub total : Fits w32 x.total

pub record Sums64 (s : Sums) : Type 0 where
  pub a : SFits w64 s.a.0
  pub b : SFits w64 s.b.0
  pub «open» : SFits w64 s.«open».0
  pub due : SFits w64 s.due.0
