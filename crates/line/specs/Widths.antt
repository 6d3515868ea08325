-- How much room a line asks for, and how many bytes its parts have at most.
use Rattle.std.specs.Prelude.{ℕ, ◌+◌, ◌*◌}

-- "22 buffer under 200 bytes" (01, "When a book is turned down")
abbrev pub line_room : ℕ
line_room = 200

-- for the line with every figure of a row, and for the one of its shares
abbrev pub row_room : ℕ
row_room = 256

-- the digits of an unsigned 32-bit number
abbrev pub count_width : ℕ
count_width = 10

-- a second and a letter
abbrev pub start_width : ℕ
start_width = count_width + 2

-- a space, and a signed 32-bit number
abbrev pub field_width : ℕ
field_width = 12

-- a space, and an unsigned 32-bit number
abbrev pub unsigned_width : ℕ
unsigned_width = 1 + count_width

-- a 64-bit number, signed or not
abbrev pub sum_width : ℕ
sum_width = 20

-- a space, a letter and four figures
abbrev pub plant_width : ℕ
plant_width = 2 + 4 * field_width

-- the five figures of a kind
abbrev pub kind_width : ℕ
kind_width = 5 * field_width

-- the four figures of a kind's rounding
abbrev pub rounding_width : ℕ
rounding_width = 4 * unsigned_width

-- a kind's name and a side's, with their spaces
abbrev pub name_width : ℕ
name_width = 5

abbrev pub side_width : ℕ
side_width = 7

-- the line of a kind outside its band
abbrev pub outside_width : ℕ
outside_width = start_width + name_width + side_width + count_width + 1

-- seconds and kW-seconds of a side
abbrev pub side_count_width : ℕ
side_count_width = side_width + count_width + 1 + sum_width

-- the line of a kind's counts
abbrev pub counts_width : ℕ
counts_width = 1 + name_width + 2 * side_count_width + 1
