-- A block is accepted exactly when it has the layout (specs/Layout.antt), and its seconds are the parts of 108 bytes from byte 16 on.
-- The proof is `claims` of proofs/Claims.antt.
use Rattle.std.specs.Prelude.{◌≡◌, ℕ, ◌*◌, ◌<◌, List, [], ◌∷◌, take, drop}
use Rattle.codec.specs.Little.{Bytes}
use Rattle.block.specs.Places.{second_size}
use Rattle.block.specs.Said.{values}
use Rattle.block.specs.Header.{header_of}
use Rattle.block.specs.Block.{block_of, second_of}
use Rattle.block.specs.Layout.{HeaderLayout, BlockLayout, body_of}

pub record Claims : Type 0 where
  pub header_taken : (s : List ℕ) (owner seconds : ℕ) → Bytes s → header_of s ≡ values (owner ∷ seconds ∷ []) → HeaderLayout s owner seconds
  pub header_given : (s : List ℕ) (owner seconds : ℕ) → HeaderLayout s owner seconds → header_of s ≡ values (owner ∷ seconds ∷ [])
  pub block_taken : (s : List ℕ) (seconds n k : ℕ) → Bytes s → block_of s seconds n ≡ values (k ∷ []) → BlockLayout s seconds n k
  pub block_given : (s : List ℕ) (seconds n k : ℕ) → BlockLayout s seconds n k → block_of s seconds n ≡ values (k ∷ [])
  pub block_seconds : (s : List ℕ) (seconds n k : ℕ) → BlockLayout s seconds n k → (i : ℕ) → i < k → second_of s i ≡ take second_size (drop (second_size * i) (body_of s k))
