-- The copy is how the bytes begin, and of a book of right form it is the book: block after block. Assumes nothing.
use Rattle.std.proofs.Common.{◌≡◌, refl, ap, ◌∙◌, List, [], ◌∷◌, ◌++◌, ℕ, zero, suc, ◌+◌, arith, length, take, drop, take-append-drop, get_or-drop}
use Rattle.codec.specs.Little.{Bytes}
use Rattle.block.specs.Places.{block_size}
use Rattle.block.specs.Bytes.{zeros}
use Rattle.block.specs.Header.{header_number, seconds_of}
use Rattle.block.specs.Block.{block_number}
use Rattle.block.specs.Writing.{Outcome}
use Rattle.block.specs.Book.{last_block, past_last, held_by, later_blocks, blocks_of}
use Rattle.block.proofs.Taken.{taken_header, taken_block}
use Rattle.check_copy.specs.Copy.{header_copy, block_copy, sent, later_copied, copied}
use Rattle.check_copy.specs.Claims.{CopyClaims}
use Rattle.check_copy.proofs.Copy.{Same, header_same, block_same, header_ends, block_ends}

-- ---- parts of the bytes

taken_bytes : (k : ℕ) (s : List ℕ) → Bytes s → Bytes (take k s)
taken_bytes zero s h i = omega arith
taken_bytes (suc k) [] h i = omega arith
taken_bytes (suc k) (b ∷ s) h zero = h 0
taken_bytes (suc k) (b ∷ s) h (suc i) = taken_bytes k s (λ j. h (suc j)) i

left_bytes : (k : ℕ) (s : List ℕ) → Bytes s → Bytes (drop k s)
left_bytes k s h i = rw (get_or-drop k s i 0) (h (k + i))

-- y begins z, so x and y begin x and z
both : (x y z : List ℕ) → y ≡ take (length y) z → x ++ y ≡ take (length (x ++ y)) (x ++ z)
both [] y z h = h
both (a ∷ x) y z h = ap (λ (l : List ℕ). a ∷ l) (both x y z h)

-- ---- block after block

-- the bytes s, of which the first block's copy is o, and `rest` is the copy of those after it
module _ (s rest : List ℕ) (o : Outcome) where
  pub begun : Same o (take block_size s) → rest ≡ take (length rest) (drop block_size s) → sent o rest ≡ take (length (sent o rest)) s
  begun same h =
      rw (same.sends rest)
      (both (take block_size s) rest (drop block_size s) h ∙ ap (take (length (take block_size s ++ rest))) (take-append-drop block_size s))

  pub ended : sent o rest ≡ [] → sent o rest ≡ take (length (sent o rest)) s
  ended e = rw e refl

  pub all : Same o (take block_size s) → rest ≡ drop block_size s → sent o rest ≡ s
  all same h = same.sends rest ∙ ap (λ (l : List ℕ). take block_size s ++ l) h ∙ take-append-drop block_size s

-- block n and `left` more, where those after it are copied so
module _ (t n left : ℕ) (b s : List ℕ) (size : length b ≡ block_size) (h : Bytes s) where
  abbrev block : List ℕ
  block = take block_size s

  abbrev anew : Outcome
  anew = block_copy b (take block_size s) t n

  abbrev others : List ℕ
  others = later_copied t (suc n) left anew.buffer (drop block_size s)

  same_block : block_number block t n ≡ 0 → Same anew block
  same_block e = block_same b block size (taken_bytes block_size s h) t n e

  size_after : block_number block t n ≡ 0 → length anew.buffer ≡ block_size
  size_after e = ap length (same_block e).buffer ∙ (taken_block block t n e).len

  next_begins : (length anew.buffer ≡ block_size → others ≡ take (length others) (drop block_size s)) → (m : ℕ) → block_number block t n ≡ m → sent anew others ≡ take (length (sent anew others)) s
  next_begins next zero e = begun s others anew (same_block e) (next (size_after e))
  next_begins next (suc m) e = ended s others anew (block_ends b block others t n e)

  abbrev held : ℕ → ℕ
  held m = (held_by m block (later_blocks t (suc n) left (drop block_size s))).number

  next_whole : (length anew.buffer ≡ block_size → held 0 ≡ 0 → others ≡ drop block_size s) → (m : ℕ) → block_number block t n ≡ m → held m ≡ 0 → sent anew others ≡ s
  next_whole next zero e k = all s others anew (same_block e) (next (size_after e) k)
  next_whole next (suc m) e k = let z : suc m ≡ 0 = k in absurd (omega arith)

later_begins : (t n left : ℕ) (b s : List ℕ) → length b ≡ block_size → Bytes s → later_copied t n left b s ≡ take (length (later_copied t n left b s)) s
unfolding later_copied
later_begins t n zero b s size h = refl
later_begins t n (suc left) b s size h =
    next_begins t n left b s size h
    (λ k. later_begins t (suc n) left _ (drop block_size s) k (left_bytes block_size s h))
    (block_number (take block_size s) t n)
    refl

none_past : (s : List ℕ) → past_last s ≡ 0 → [] ≡ s
none_past [] e = refl
none_past (b ∷ s) e = absurd (omega arith)

later_whole : (t n left : ℕ) (b s : List ℕ) → length b ≡ block_size → Bytes s → (later_blocks t n left s).number ≡ 0 → later_copied t n left b s ≡ s
unfolding later_copied later_blocks
later_whole t n zero b s size h k = none_past s k
later_whole t n (suc left) b s size h k =
    next_whole t n left b s size h
    (λ q k. later_whole t (suc n) left _ (drop block_size s) q (left_bytes block_size s h) k)
    (block_number (take block_size s) t n)
    refl
    k

-- ---- the whole book

module _ (s : List ℕ) (h : Bytes s) where
  abbrev head : List ℕ
  head = take block_size s

  abbrev t : ℕ
  t = seconds_of (take block_size s)

  abbrev o : Outcome
  o = header_copy (zeros block_size) (take block_size s)

  abbrev rest : List ℕ
  rest = later_copied t 1 (last_block t) o.buffer (drop block_size s)

  same_head : header_number head ≡ 0 → Same o head
  same_head e = header_same (zeros block_size) head refl (taken_bytes block_size s h) e

  size : header_number head ≡ 0 → length o.buffer ≡ block_size
  size e = ap length (same_head e).buffer ∙ (taken_header head e).len

  begins_by : (m : ℕ) → header_number head ≡ m → sent o rest ≡ take (length (sent o rest)) s
  begins_by zero e = begun s rest o (same_head e) (later_begins t 1 (last_block t) o.buffer (drop block_size s) (size e) (left_bytes block_size s h))
  begins_by (suc m) e = ended s rest o (header_ends (zeros block_size) head rest e)

  begins : copied s ≡ take (length (copied s)) s
  unfolding copied
  begins = begins_by (header_number head) refl

  whole : header_number head ≡ 0 → (blocks_of t (drop block_size s)).number ≡ 0 → copied s ≡ s
  unfolding copied
  whole e k = all s rest o (same_head e) (later_whole t 1 (last_block t) o.buffer (drop block_size s) (size e) (left_bytes block_size s h) k)

pub claims : CopyClaims
claims = record { begins = begins; whole = whole }
