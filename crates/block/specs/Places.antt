-- The figures of a block (01, "Blocks and text").
use Rattle.std.specs.Prelude.{ℕ, ◌+◌, ◌*◌}
use Rattle.record.specs.Record.{book_size}

-- "512 bytes each"
abbrev pub block_size : ℕ
block_size = 512

-- "Check, bytes 508-511"
abbrev pub check_at : ℕ
check_at = 508

-- ---- the header

-- "0-3 'RLIW', 4-5 version 1, 6 owner, 8-11 seconds in the book"
abbrev pub name_at : ℕ
name_at = 0

abbrev pub version_at : ℕ
version_at = 4

abbrev pub version : ℕ
version = 1

abbrev pub owner_at : ℕ
owner_at = 6

-- the spare byte before the seconds in the book
abbrev pub spare_at : ℕ
spare_at = 7

abbrev pub book_seconds_at : ℕ
book_seconds_at = 8

-- the first byte past these fields
abbrev pub header_end : ℕ
header_end = book_seconds_at + 4

-- ---- a later block

-- "0-3 block number from 1, 4 seconds in it (4, fewer only in the last), from 16 on 108 bytes a second"
abbrev pub number_at : ℕ
number_at = 0

abbrev pub count_at : ℕ
count_at = 4

abbrev pub count_end : ℕ
count_end = count_at + 1

abbrev pub per_block : ℕ
per_block = 4

abbrev pub body_at : ℕ
body_at = 16

abbrev pub second_size : ℕ
second_size = book_size

-- the place of second i, counted from 0
abbrev pub second_at : ℕ → ℕ
second_at i = body_at + second_size * i
