-- A list of book seconds in one slice, taken from the front. Assumes nothing.
use Rattle.std.proofs.Common.{ℕ, zero, suc, ◌-◌, ◌≤◌, ◌<◌, ◌≡◌, refl, sym, ap, ◌∙◌, subst, List, [], ◌∷◌, ◌++◌, arith, length, get_or, take, drop, length-drop, drop_of_length-le, take_all}
use Rattle.std.proofs.Math.Seq.{take-append_seam, drop-append_seam}
use Rattle.sheet.specs.Sheet.{InRange}
use Rattle.book.specs.Answers.{BookStep}
use Rattle.book.specs.Seconds.{BookSecond}
use Rattle.book.specs.declared.Book.{Book}
use Rattle.book.specs.State.{fresh, step_in, Ready}
use Rattle.book.specs.Run.{book_after}
use Rattle.book.specs.List.{split, own_bytes, later_bytes, listed_in, written, Listed, ListRan}
use Rattle.book.proofs.Claims.{claims}

split_same : (n m : ℕ) (s : List ℕ) → length s ≤ n → length s ≤ m → split n s ≡ split m s
unfolding split
split_same zero zero s g h = refl
split_same zero (suc m) [] g h = refl
split_same zero (suc m) (o ∷ s) g h = absurd (omega arith)
split_same (suc n) zero [] g h = refl
split_same (suc n) zero (o ∷ s) g h = absurd (omega arith)
split_same (suc n) (suc m) [] g h = refl
split_same (suc n) (suc m) (o ∷ []) g h = refl
split_same (suc n) (suc m) (o ∷ (k ∷ s)) g h =
    ap (λ (ss : List BookSecond). record { owner = o; bytes = take k s } ∷ ss)
    (split_same n m (drop k s) (omega (arith, length-drop k s)) (omega (arith, length-drop k s)))

one : (o : ℕ) → listed_in (o ∷ []) ≡ record { owner = o; bytes = [] } ∷ []
unfolding listed_in split
one o = refl

more : (o k : ℕ) (s : List ℕ) → listed_in (o ∷ (k ∷ s)) ≡ record { owner = o; bytes = take k s } ∷ listed_in (drop k s)
unfolding listed_in split
more o k s =
    ap (λ (ss : List BookSecond). record { owner = o; bytes = take k s } ∷ ss)
    (split_same (suc (length s)) (length (drop k s)) (drop k s) (omega (arith, length-drop k s)) (omega arith))

pub seconds_none : (l : List ℕ) (i : ℕ) → length l ≤ i → listed_in (drop i l) ≡ []
unfolding listed_in split
seconds_none l i h = rw (drop_of_length-le l h)

-- what is written is read back
read_back : (ss : List BookSecond) → listed_in (written ss) ≡ ss
unfolding written
read_back [] = seconds_none [] 0 (omega arith)
read_back (s ∷ ss) =
    more s.owner (length s.bytes) (s.bytes ++ written ss)
    ∙ (λ i. record { owner = s.owner; bytes = take-append_seam s.bytes (written ss) i } ∷ listed_in (drop-append_seam s.bytes (written ss) i))
    ∙ ap (λ (t : List BookSecond). s ∷ t) (read_back ss)

pub listed : Listed
listed = record { read_back = read_back }

-- ---- past the owner byte of the first second, which `take (length l - 1) (drop 1 l)` are the bytes of

rest_of : (o : ℕ) (s : List ℕ) → take (length (o ∷ s) - 1) (drop 1 (o ∷ s)) ≡ s
rest_of o s = take_all _ s (omega arith)

first_listed : (o : ℕ) (s : List ℕ) → listed_in (o ∷ s) ≡ record { owner = o; bytes = own_bytes s } ∷ listed_in (later_bytes s)
first_listed o [] = one o ∙ ap (λ (ss : List BookSecond). record { owner = o; bytes = [] } ∷ ss) (sym (seconds_none [] 0 (omega arith)))
first_listed o (k ∷ s) = more o k s

pub first_second :
    (l f g : List ℕ) → 1 ≤ length l → f ≡ own_bytes (take (length l - 1) (drop 1 l)) → g ≡ later_bytes (take (length l - 1) (drop 1 l))
    → listed_in l ≡ record { owner = get_or l 0 0; bytes = f } ∷ listed_in g
first_second [] f g h p q = absurd (omega arith)
first_second (o ∷ s) f g h p q = rw (p, q, rest_of o s) (first_listed o s)

later_short : (s : List ℕ) → length (later_bytes s) ≤ length s
later_short [] = omega arith
later_short (k ∷ s) = omega (arith, length-drop k s)

pub later_shorter : (l g : List ℕ) → 1 ≤ length l → g ≡ later_bytes (take (length l - 1) (drop 1 l)) → length g < length l
later_shorter [] g h q = absurd (omega arith)
later_shorter (o ∷ s) g h q = rw (q, rest_of o s) (omega (arith, later_short s))

-- ---- the run

pub ran_second :
    (k : Book) (l : List ℕ) (s : BookSecond) (ss : List BookSecond) (p : BookStep) → listed_in l ≡ s ∷ ss → p ≡ step_in k s
    → book_after k (listed_in l) ≡ book_after p.book ss
unfolding book_after
ran_second k l s ss p e q = rw (e, q)

pub ran : (k : Book) → Ready k → (ss : List BookSecond) (r : Book) (l : List ℕ) → length l < 1 → book_after k ss ≡ book_after r (listed_in l) → ListRan k ss r
unfolding fresh book_after
ran k i ss r l h q =
    record {
      is = sym (q ∙ ap (book_after r) (seconds_none l 0 (omega arith)));
      claims = λ sh e. claims sh (subst InRange (ap (λ (b : Book). b.sheet) e) i.unit.sheet) ss;
    }
