-- What the code's reading says.
use Rattle.std.specs.Prelude.{take}
use Rattle.standing.specs.Stood.{stood}
use Rattle.pieces.specs.declared.reading.Reading.{Reading as Held}
use Rattle.pieces.specs.Pieces.{Reading}

abbrev pub placed : Held → Reading
placed h = record { standing = stood h.standing; part = take h.filled h.part }
