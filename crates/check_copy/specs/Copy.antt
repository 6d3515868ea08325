-- A book written anew (02, W1): each block that the reader accepts, as the writer makes it of the block's fields, up to the first that is refused.
use Rattle.std.specs.Prelude.{List, [], ◌++◌, ℕ, zero, suc, take, drop}
use Rattle.block.specs.Places.{block_size}
use Rattle.block.specs.Bytes.{zeros}
use Rattle.block.specs.Said.{Said, values, refused}
use Rattle.block.specs.Header.{owner_of, seconds_of, header_number, header_of}
use Rattle.block.specs.Block.{count_of, block_number, block_of}
use Rattle.block.specs.Layout.{body_of}
use Rattle.block.specs.Writing.{Outcome, buffer_by, header_written, block_written}
use Rattle.block.specs.Book.{last_block}

-- ---- one block: what the reader says of the bytes s, and the buffer after it, where it held b

abbrev pub header_copy : List ℕ → List ℕ → Outcome
header_copy b s =
    record { said = header_of s; buffer = buffer_by (header_number s) b (header_written b (owner_of s) (seconds_of s)).buffer }

-- block n of a book of t seconds
abbrev pub block_copy : List ℕ → List ℕ → ℕ → ℕ → Outcome
block_copy b s t n =
    record { said = block_of s t n; buffer = buffer_by (block_number s t n) b (block_written b n (body_of s (count_of s))).buffer }

-- ---- block after block

abbrev pub sent_by : Said → List ℕ → List ℕ
sent_by (values vs) s = s
sent_by (refused n) s = []

-- what is sent of a block, and of those after it: nothing where the reader refuses it
abbrev pub sent : Outcome → List ℕ → List ℕ
sent o rest = sent_by o.said (o.buffer ++ rest)

-- the later blocks of a book of t seconds in the bytes s, `left` of them from block n on; each is written over the one before it
unfoldable pub later_copied : ℕ → ℕ → ℕ → List ℕ → List ℕ → List ℕ
later_copied t n zero b s = []
later_copied t n (suc left) b s =
    sent
    (block_copy b (take block_size s) t n)
    (later_copied t (suc n) left (block_copy b (take block_size s) t n).buffer (drop block_size s))

-- the header's block first, into a buffer of 0 alone
abbrev pub blocks_copied : Outcome → ℕ → List ℕ → List ℕ
blocks_copied o t s = sent o (later_copied t 1 (last_block t) o.buffer s)

unfoldable pub copied : List ℕ → List ℕ
copied s =
    blocks_copied (header_copy (zeros block_size) (take block_size s)) (seconds_of (take block_size s)) (drop block_size s)
