-- What the program prints: from all the bytes of standard input to all those of standard output, and the same as the bytes come.
use Rattle.std.specs.Prelude.{ℕ, zero, suc, ◌+◌, ◌*◌, ◌/◌, List, [], ◌∷◌, ◌++◌, length, take, drop}
use Rattle.line.specs.Text.{ascii, digits, field}
use Rattle.line.specs.Widths.{field_width}
use Rattle.meters.specs.Meters.{Said, deviation, refused}
use Rattle.choose_meter.specs.Records.{record_size, said_in}

-- `0` and the deviation in mHz, or the number
unfoldable pub line_text : Said → List ℕ
line_text (deviation z) = ascii "0" ++ (field z ++ ascii "\n")
line_text (refused n) = digits n ++ ascii "\n"

-- the lines of n records; the last may be cut short
unfoldable pub lines_of : ℕ → List ℕ → List ℕ
lines_of zero s = []
lines_of (suc n) s = line_text (said_in (take record_size s)) ++ lines_of n (drop record_size s)

-- a line for each record that is begun
unfoldable pub printed : List ℕ → List ℕ
printed s = lines_of ((length s + 63) / record_size) s

-- ---- as the bytes come

-- the lines of the whole records in s, and the bytes after them
unfoldable pub whole_text : List ℕ → List ℕ
whole_text s = lines_of (length s / record_size) s

unfoldable pub rest_of : List ℕ → List ℕ
rest_of s = drop (length s / record_size * record_size) s

-- piece after piece, with the bytes kept of the ones before; where the input ends these are a record cut short, or nothing
unfoldable pub told : List ℕ → List (List ℕ) → List ℕ
told kept [] = printed kept
told kept (p ∷ ps) = whole_text (kept ++ p) ++ told (rest_of (kept ++ p)) ps

-- ---- sizes

-- a line's bytes at most
abbrev pub line_width : ℕ
line_width = 1 + field_width + 1

-- the records of a piece, the bytes that are held at once, and the room that their lines ask for
abbrev pub piece_records : ℕ
piece_records = 256

abbrev pub piece_size : ℕ
piece_size = piece_records * record_size

abbrev pub piece_room : ℕ
piece_room = piece_records * line_width
