-- A list of accepted seconds cut once (02, W7): `early` and then `late`, both newest first. In the second book the delivery ends are moved back by
-- the first one's length. It is claimed in specs/Claims.antt.
use Rattle.std.specs.Prelude.{◌≡◌, [], ◌∷◌, ◌++◌, map, ℤ, length}
use Rattle.sheet.specs.declared.Sheet.{Sheet}
use Rattle.record.specs.declared.Record.{Record}
use Rattle.plant.specs.Seconds.{History, moved_back}
use Rattle.plant.specs.Refusals.{record_number_at}
use Rattle.plant.specs.Rows.{row_at}

-- second x of the one book, after `late`, is accepted in the second one too, with the same row
pub record Cut (sh : Sheet) (early late : History) (x : Record) : Type 0 where
  pub number : record_number_at (early ∷ []) (map (moved_back (length early)) late) (moved_back (length early) x) ≡ 0
  pub row : (m w : ℤ) → row_at sh (early ∷ []) (map (moved_back (length early)) late) (moved_back (length early) x) m w ≡ row_at sh [] (late ++ early) x m w
