-- The blocks of a book byte for byte (01, "Blocks and text"): what a header and a later block are when nothing is refused.
use Rattle.std.specs.Prelude.{◌≡◌, ℕ, ◌+◌, ◌*◌, ◌-◌, ◌/◌, ◌≤◌, ◌<◌, List, [], ◌∷◌, ◌++◌, length}
use Rattle.codec.specs.Little.{le2, le4}
use Rattle.record.specs.Record.{most_seconds, all_kinds}
use Rattle.block.specs.Places.{check_at, header_end, version, count_end, body_at, second_size, second_at}
use Rattle.block.specs.Bytes.{part, zeros}
use Rattle.block.specs.Check.{check_of}
use Rattle.block.specs.Header.{name}
use Rattle.block.specs.Block.{due_in}

-- bytes 0 to 507 and their check
abbrev pub closed : List ℕ → List ℕ
closed front = front ++ le4 (check_of front)

-- "0-3 'RLIW', 4-5 version 1, 6 owner, 8-11 seconds in the book", up to the check
unfoldable pub header_front : ℕ → ℕ → List ℕ
header_front owner seconds =
    name ++ (le2 version ++ ((owner ∷ 0 ∷ []) ++ (le4 seconds ++ zeros (check_at - header_end))))

abbrev pub header_bytes : ℕ → ℕ → List ℕ
header_bytes owner seconds = closed (header_front owner seconds)

pub record HeaderLayout (s : List ℕ) (owner seconds : ℕ) : Type 0 where
  pub owners : owner ≤ all_kinds
  pub some : 0 < seconds
  pub most : seconds ≤ most_seconds
  pub bytes : s ≡ header_bytes owner seconds

-- how many seconds these bytes are
abbrev pub count_in : List ℕ → ℕ
count_in body = length body / second_size

-- "0-3 block number from 1, 4 seconds in it .., from 16 on 108 bytes a second", up to the check
unfoldable pub block_front : ℕ → List ℕ → List ℕ
block_front n body =
    le4 n ++ ((count_in body ∷ zeros (body_at - count_end)) ++ (body ++ zeros (check_at - (body_at + length body))))

abbrev pub block_bytes : ℕ → List ℕ → List ℕ
block_bytes n body = closed (block_front n body)

-- the bytes of the k seconds of a block
abbrev pub body_of : List ℕ → ℕ → List ℕ
body_of s k = part s body_at (second_at k)

pub record BlockLayout (s : List ℕ) (seconds n k : ℕ) : Type 0 where
  pub due : k ≡ due_in seconds n
  pub some : 0 < k
  pub number : 0 < n
  pub size : length (body_of s k) ≡ second_size * k
  pub bytes : s ≡ block_bytes n (body_of s k)
