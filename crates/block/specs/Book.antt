-- A whole book in blocks (01, "Blocks and text"): the seconds that its later blocks hold, read block after block, and the bytes that the
-- writers make of a list of seconds (02, W1).
use Rattle.std.specs.Prelude.{◌≡◌, List, [], ◌∷◌, ◌++◌, ℕ, zero, suc, ◌+◌, ◌-◌, ◌/◌, length, take, drop}
use Rattle.block.specs.Places.{block_size, per_block, second_size}
use Rattle.block.specs.Block.{block_number, count_of, seconds_from}
use Rattle.block.specs.Layout.{header_bytes, block_bytes}

-- the number of the last block of a book of t seconds: 4 in each, fewer only in the last
abbrev pub last_block : ℕ → ℕ
last_block t = (t + (per_block - 1)) / per_block

-- ---- read

-- the seconds in turn up to the first block that is refused, and its number, 0 where none is
pub record Held : Type 0 where
  pub seconds : List (List ℕ)
  pub number : ℕ

-- block s, where its number is n and `rest` is what the blocks after it hold
abbrev pub held_by : ℕ → List ℕ → Held → Held
held_by zero s rest = record { seconds = seconds_from s 0 (count_of s) ++ rest.seconds; number = rest.number }
held_by (suc n) s rest = record { seconds = []; number = suc n }

-- "21 for bytes after the last"
abbrev pub past_last : List ℕ → ℕ
past_last [] = 0
past_last (b ∷ s) = 21

-- the later blocks of a book of t seconds in the bytes s, `left` of them from block n on; "12 for a short block": one that isn't whole is what
-- is left of s
unfoldable pub later_blocks : ℕ → ℕ → ℕ → List ℕ → Held
later_blocks t n zero s = record { seconds = []; number = past_last s }
later_blocks t n (suc left) s =
    held_by (block_number (take block_size s) t n) (take block_size s) (later_blocks t (suc n) left (drop block_size s))

abbrev pub blocks_of : ℕ → List ℕ → Held
blocks_of t s = later_blocks t 1 (last_block t) s

-- ---- written

-- each second has its 108 bytes
abbrev pub WholeSeconds : List (List ℕ) → Type 0
WholeSeconds [] = Unit
WholeSeconds (s ∷ ss) = (length s ≡ second_size) × WholeSeconds ss

-- the bytes of seconds in turn
unfoldable pub joined : List (List ℕ) → List ℕ
joined [] = []
joined (s ∷ ss) = s ++ joined ss

-- the seconds ss in `left` blocks, from block n on: 4 in each, fewer only in the last
unfoldable pub later_bytes : ℕ → ℕ → List (List ℕ) → List ℕ
later_bytes n zero ss = []
later_bytes n (suc left) ss = block_bytes n (joined (take per_block ss)) ++ later_bytes (suc n) left (drop per_block ss)

-- the header and the later blocks of the seconds ss
unfoldable pub book_bytes : ℕ → List (List ℕ) → List ℕ
book_bytes owner ss = header_bytes owner (length ss) ++ later_bytes 1 (last_block (length ss)) ss
