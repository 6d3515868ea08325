-- A book taken as its bytes come: what each adds to the text, and where the book stands then. That all of it is `printed` of the bytes is a claim
-- (`printed/specs/Claims.antt`).
use Rattle.std.specs.Prelude.{◌≡◌, ℕ, ◌+◌, ◌*◌, ◌-◌, ◌≤◌, ◌<◌, min, Bool, true, false, List, [], ◌∷◌, ◌++◌, eqb, length}
use Rattle.sheet.specs.declared.Sheet.{Sheet}
use Rattle.block.specs.Places.{block_size}
use Rattle.codec.specs.declared.lent.Lent.{Lent}
use Rattle.codec.specs.Put.{Put}
use Rattle.codec.specs.Lent.{Grown}
use Rattle.line.specs.Widths.{row_room}
use Rattle.report.specs.declared.Form.{Form}
use Rattle.report.specs.Running.{Verdict, Accepted, Refused}
use Rattle.report.specs.Text.{counts_of, second_room, block_room}
use Rattle.standing.specs.Standing.{Standing, Went, unmoved, start, is_due, standing_in, last_line_in, bytes_due}

-- ---- byte after byte

-- the byte b, where p are the bytes of the next block that are there
abbrev pub byte_by : Bool → Bool → Standing → List ℕ → ℕ → Went
byte_by false whole st p b = standing_in st (b ∷ [])
byte_by true false st p b = unmoved st (p ++ (b ∷ []))
byte_by true true st p b = standing_in st (p ++ (b ∷ []))

abbrev pub byte_in : Standing → List ℕ → ℕ → Went
byte_in st p b = byte_by (is_due st) (eqb (length p + 1) block_size) st p b

abbrev pub onward : List ℕ → Went → Went
onward t w = record { text = t ++ w.text; standing = w.standing; part = w.part }

unfoldable pub bytes_in : Standing → List ℕ → List ℕ → Went
bytes_in st p [] = unmoved st p
bytes_in st p (b ∷ s) = onward (byte_in st p b).text (bytes_in (byte_in st p b).standing (byte_in st p b).part s)

-- ---- the end of the bytes

-- the last line, with what stands before it
unfoldable pub last_in : Standing → List ℕ
last_in st = counts_of st.plan.form st.tally ++ last_line_in st

-- ---- what the operations ask and answer

-- the most bytes that are taken at once, in whole blocks, and room for their text: one block more may end in them, and one is kept free
abbrev pub piece_blocks : ℕ
piece_blocks = 32

abbrev pub piece_size : ℕ
piece_size = piece_blocks * block_size

abbrev pub piece_room : ℕ
piece_room = (piece_blocks + 2) * block_room

-- room for the counts and the last line
abbrev pub end_room : ℕ
end_room = second_room + row_room

-- how many bytes are to be read next, at most: none after a refusal, one past the last block, else no more than the blocks due have
abbrev pub wanted_by : Verdict → Bool → ℕ → ℕ
wanted_by (Refused n) due left = 0
wanted_by Accepted false left = 1
wanted_by Accepted true left = min left piece_size

-- where `filled` bytes of the next block are there
unfoldable pub wanted_in : Standing → ℕ → ℕ
wanted_in st filled = wanted_by st.verdict (is_due st) (bytes_due st - filled)

-- where a book stands as its bytes come, with the bytes of the next block that are there
pub record Reading : Type 0 where
  pub standing : Standing
  pub part : List ℕ

-- before the first byte
abbrev pub unread : Sheet → Form → Reading
unread sh f = record { standing = start sh f; part = [] }

-- where it stands after w
abbrev pub left_by : Went → Reading
left_by w = record { standing = w.standing; part = w.part }

-- a piece gave w: its text, of at most m bytes, is put at the front of the buffer b, that is e, up to byte n; r is where the book stands then
pub record Takes (m : ℕ) (b e : List ℕ) (n : ℕ) (r : Reading) (w : Went) : Type 0 where
  pub reading : r ≡ left_by w
  pub text : Put m b e 0 n w.text

-- some bytes that fit the block next in turn
pub record Fitting (r : Reading) (s : List ℕ) : Type 0 where
  pub some : 0 < length s
  pub fits : length r.part + length s ≤ block_size

-- the text of the bytes s, of at most m bytes, is put into the lent buffer t, which is u then; v is where the book stands then. A block's text is added
-- only where a block is whole, so no more room is used than the bytes ask for
pub record Chunked (m : ℕ) (r : Reading) (s : List ℕ) (t u : Lent) (v : Reading) : Type 0 where
  pub reading : v ≡ left_by (bytes_in r.standing r.part s)
  pub text : Grown m t u (bytes_in r.standing r.part s).text
  pub paced : u.at * block_size + length v.part * block_room ≤ t.at * block_size + (length r.part + length s) * block_room

-- so many bytes are wanted, at most a piece; `short` is the type's ghost field, of the bytes that clauses see
pub record Wanted (r : Reading) (n : ℕ) : Type 0 where
  pub is : n ≡ wanted_in r.standing (length r.part)
  pub most : n ≤ piece_size
  pub short : length r.part < block_size
