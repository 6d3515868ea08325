-- What the writers write reads back, and what the readers accept is what the writers write (02, W1). The proof is `claims` of
-- proofs/WriterClaims.antt.
use Rattle.std.specs.Prelude.{◌≡◌, ℕ, ◌+◌, ◌*◌, ◌≤◌, ◌<◌, List, [], ◌∷◌, length, take, drop}
use Rattle.codec.specs.Little.{Bytes}
use Rattle.record.specs.Record.{most_seconds, all_kinds}
use Rattle.block.specs.Places.{block_size, per_block, second_size}
use Rattle.block.specs.Said.{values}
use Rattle.block.specs.Header.{header_of}
use Rattle.block.specs.Block.{block_of, second_of, due_in}
use Rattle.block.specs.Layout.{count_in, body_of}
use Rattle.block.specs.Writing.{wrote, header_written, block_written}
use Rattle.block.specs.Book.{last_block, blocks_of, WholeSeconds, joined, book_bytes}

-- block n of a book of t seconds, read back as the seconds of `body`
pub record BlockBack (s : List ℕ) (t n : ℕ) (body : List ℕ) : Type 0 where
  pub count : block_of s t n ≡ values (count_in body ∷ [])
  pub seconds : (i : ℕ) → i < count_in body → second_of s i ≡ take second_size (drop (second_size * i) body)

-- the book of the seconds ss, read back as its owner, its count and these seconds; and its bytes are those of the writers: the header's, and for
-- block n those of its at most 4 seconds, whatever the buffer b held
pub record BookBack (owner : ℕ) (ss : List (List ℕ)) : Type 0 where
  pub header : header_of (take block_size (book_bytes owner ss)) ≡ values (owner ∷ length ss ∷ [])
  pub seconds : blocks_of (length ss) (drop block_size (book_bytes owner ss)) ≡ record { seconds = ss; number = 0 }
  pub header_written_lem : (b : List ℕ) → length b ≡ block_size → header_written b owner (length ss) ≡ wrote (take block_size (book_bytes owner ss))
  pub blocks_written : (b : List ℕ) (n : ℕ) → length b ≡ block_size → n < last_block (length ss) → block_written b (n + 1) (joined (take per_block (drop (per_block * n) ss))) ≡ wrote (take block_size (drop (block_size * (n + 1)) (book_bytes owner ss)))

pub record WriterClaims : Type 0 where
  -- "A header, and blocks with the numbers and counts due under it, read back as the same owner, count and seconds."
  pub header_reads_back : (b s : List ℕ) (owner seconds : ℕ) → header_written b owner seconds ≡ wrote s → header_of s ≡ values (owner ∷ seconds ∷ [])
  pub block_reads_back : (b s body : List ℕ) (t n : ℕ) → block_written b n body ≡ wrote s → count_in body ≡ due_in t n → BlockBack s t n body
  pub book_reads_back : (owner : ℕ) (ss : List (List ℕ)) → owner ≤ all_kinds → WholeSeconds ss → 0 < length ss → length ss ≤ most_seconds → BookBack owner ss
  -- "Each block that the reader accepts equals what the writer makes of its fields."
  pub header_is_written : (b s : List ℕ) (owner seconds : ℕ) → length b ≡ block_size → Bytes s → header_of s ≡ values (owner ∷ seconds ∷ []) → header_written b owner seconds ≡ wrote s
  pub block_is_written : (b s : List ℕ) (t n k : ℕ) → length b ≡ block_size → Bytes s → block_of s t n ≡ values (k ∷ []) → block_written b n (body_of s k) ≡ wrote s
