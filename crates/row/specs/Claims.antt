-- Where a kind stands agrees with document 01's words for it. The proof is `claims` of proofs/Claims.antt.
use Rattle.std.specs.Prelude.{◌≡◌, ◌↔◌}
use Rattle.row.specs.declared.KindRow.{KindRow}
use Rattle.row.specs.declared.side.BandSide.TheVariants.{Within}
use Rattle.row.specs.Row.{InBand}
use Rattle.row.specs.Side.{side_of}

pub record Claims : Type 0 where
  -- a kind at an end of its band, too, lies within it
  pub within : (k : KindRow) → (side_of k ≡ Within) ↔ InBand k
