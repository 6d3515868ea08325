-- A list of book seconds in one slice: for each its owner byte, a byte with the number of its bytes, and those bytes. A last one may be cut short.
use Rattle.std.specs.Prelude.{ℕ, zero, suc, ◌≡◌, List, [], ◌∷◌, ◌++◌, length, take, drop}
use Rattle.sheet.specs.declared.Sheet.{Sheet}
use Rattle.book.specs.declared.Book.{Book}
use Rattle.book.specs.Seconds.{BookSecond}
use Rattle.book.specs.State.{fresh}
use Rattle.book.specs.Run.{book_after}
use Rattle.book.specs.Claims.{Claims}

unfoldable pub split : ℕ → List ℕ → List BookSecond
split zero s = []
split (suc n) [] = []
split (suc n) (o ∷ []) = record { owner = o; bytes = [] } ∷ []
split (suc n) (o ∷ (k ∷ s)) = record { owner = o; bytes = take k s } ∷ split n (drop k s)

unfoldable pub listed_in : List ℕ → List BookSecond
listed_in s = split (length s) s

-- past an owner byte: the bytes of its second, and those of the later ones
abbrev pub own_bytes : List ℕ → List ℕ
own_bytes [] = []
own_bytes (k ∷ s) = take k s

abbrev pub later_bytes : List ℕ → List ℕ
later_bytes [] = []
later_bytes (k ∷ s) = drop k s

-- every list of seconds, of up to 255 bytes each, is written so
unfoldable pub written : List BookSecond → List ℕ
written [] = []
written (s ∷ ss) = s.owner ∷ (length s.bytes ∷ (s.bytes ++ written ss))

-- and read back, so that a claim about every slice is one about every such list. The proof is `listed` of proofs/Listed.antt.
pub record Listed : Type 0 where
  pub read_back : (ss : List BookSecond) → listed_in (written ss) ≡ ss

-- what running the list from the book k gives: the book after it; and of a fresh book the whole claim holds
pub record ListRan (k : Book) (ss : List BookSecond) (r : Book) : Type 0 where
  pub is : r ≡ book_after k ss
  pub claims : (sh : Sheet) → k ≡ fresh sh → Claims sh ss
