-- A copy is what was read (02, W1: "Each block that the reader accepts equals what the writer makes of its fields."). The proof is `claims` of
-- proofs/Claims.antt.
use Rattle.std.specs.Prelude.{◌≡◌, List, ℕ, length, take, drop}
use Rattle.codec.specs.Little.{Bytes}
use Rattle.block.specs.Places.{block_size}
use Rattle.block.specs.Header.{header_number, seconds_of}
use Rattle.block.specs.Book.{blocks_of}
use Rattle.check_copy.specs.Copy.{copied}

pub record CopyClaims : Type 0 where
  -- of any bytes, the copy is how they begin
  pub begins : (s : List ℕ) → Bytes s → copied s ≡ take (length (copied s)) s
  -- of a book with nothing wrong in its form, it is the book
  pub whole : (s : List ℕ) → Bytes s → header_number (take block_size s) ≡ 0 → (blocks_of (seconds_of (take block_size s)) (drop block_size s)).number ≡ 0 → copied s ≡ s
