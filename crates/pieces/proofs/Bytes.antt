-- The bytes of a book in turn: cut anywhere; bytes that a block is due for, or none. Assumes nothing.
use Rattle.std.proofs.Common.{◌≡◌, refl, sym, ap, ◌∙◌, Bool, true, false, List, [], ◌∷◌, ◌++◌, append_assoc, append-nil, ℕ, ◌+◌, ◌<◌, arith, length, length-append, eq-eqb, ne_eqb}
use Rattle.block.specs.Places.{block_size}
use Rattle.report.specs.Running.{Verdict, Accepted, Refused}
use Rattle.standing.specs.Standing.{Standing, Went, unmoved, with_verdict, beyond_by, is_due, standing_in}
use Rattle.standing.proofs.Steps.{none_left, refused_not_due, beyond_is}
use Rattle.pieces.specs.Pieces.{byte_in, onward, bytes_in}

-- ---- cut in two

-- one byte more in front, where w is what it gives
cut_more : (w : Went) (xs ys : List ℕ) → bytes_in w.standing w.part (xs ++ ys) ≡ onward (bytes_in w.standing w.part xs).text (bytes_in (bytes_in w.standing w.part xs).standing (bytes_in w.standing w.part xs).part ys) → onward w.text (bytes_in w.standing w.part (xs ++ ys)) ≡ onward (w.text ++ (bytes_in w.standing w.part xs).text) (bytes_in (bytes_in w.standing w.part xs).standing (bytes_in w.standing w.part xs).part ys)
cut_more w xs ys e = rw e (rw append_assoc)

pub cut : (st : Standing) (p xs ys : List ℕ) → bytes_in st p (xs ++ ys) ≡ onward (bytes_in st p xs).text (bytes_in (bytes_in st p xs).standing (bytes_in st p xs).part ys)
unfolding bytes_in
cut st p [] ys = refl
cut st p (b ∷ xs) ys = cut_more (byte_in st p b) xs ys (cut (byte_in st p b).standing (byte_in st p b).part xs ys)

-- ---- bytes that no block is due for

byte_beyond : (st : Standing) (p : List ℕ) (b : ℕ) → is_due st ≡ false → byte_in st p b ≡ beyond_by st.verdict st (b ∷ [])
byte_beyond st p b e = rw e (beyond_is st (b ∷ []) e)

byte_refused : (st : Standing) {n : ℕ} (b : ℕ) → st.verdict ≡ Refused n → byte_in st [] b ≡ unmoved st []
byte_refused st b e = byte_beyond st [] b (refused_not_due st e) ∙ ap (λ (v : Verdict). beyond_by v st (b ∷ [])) e

-- after a refusal nothing counts
pub stays : (st : Standing) {n : ℕ} (s : List ℕ) → st.verdict ≡ Refused n → bytes_in st [] s ≡ unmoved st []
unfolding bytes_in
stays st [] e = refl
stays st (b ∷ s) e = rw (byte_refused st b e) (stays st s e)

pub beyond : (st : Standing) (p : List ℕ) (b : ℕ) (s : List ℕ) → is_due st ≡ false → bytes_in st p (b ∷ s) ≡ beyond_by st.verdict st (b ∷ s)
unfolding bytes_in
beyond st p b s e = rw (byte_beyond st p b e) (go st.verdict refl)
  where
    go : (v : Verdict) → st.verdict ≡ v → onward (beyond_by v st (b ∷ [])).text (bytes_in (beyond_by v st (b ∷ [])).standing (beyond_by v st (b ∷ [])).part s) ≡ beyond_by v st (b ∷ s)
    go (Refused n) q = stays st s q
    go Accepted q = stays (with_verdict st (Refused 21)) s refl

-- ---- bytes of the block that is due

byte_part : (st : Standing) (p : List ℕ) (b : ℕ) → is_due st ≡ true → length p + 1 < block_size → byte_in st p b ≡ unmoved st (p ++ (b ∷ []))
byte_part st p b e h = rw (e, ne_eqb (length p + 1) block_size (λ q. omega (arith, q)))

byte_whole : (st : Standing) (p : List ℕ) (b : ℕ) → is_due st ≡ true → length p + 1 ≡ block_size → byte_in st p b ≡ standing_in st (p ++ (b ∷ []))
byte_whole st p b e h = rw (e, eq-eqb (length p + 1) block_size h)

length_more : (p : List ℕ) (b : ℕ) → length (p ++ (b ∷ [])) ≡ length p + 1
length_more p b = length-append p (b ∷ [])

pub filling : (st : Standing) (p s : List ℕ) → is_due st ≡ true → length p + length s < block_size → bytes_in st p s ≡ unmoved st (p ++ s)
unfolding bytes_in
filling st p [] e h = rw append-nil
filling st p (b ∷ s) e h =
    let l = length_more p b in
    rw (byte_part st p b e (omega arith)) (filling st (p ++ (b ∷ [])) s e (omega arith) ∙ rw append_assoc)

pub filled_up : (st : Standing) (p : List ℕ) (b : ℕ) (s : List ℕ) → is_due st ≡ true → length p + length (b ∷ s) ≡ block_size → bytes_in st p (b ∷ s) ≡ standing_in st (p ++ (b ∷ s))
unfolding bytes_in
filled_up st p b [] e h = rw (byte_whole st p b e (omega arith)) (rw append-nil)
filled_up st p b (c ∷ s) e h =
    let l = length_more p b in
    rw (byte_part st p b e (omega arith)) (filled_up st (p ++ (b ∷ [])) c s e (omega arith) ∙ rw append_assoc)

-- ---- a whole block, due or not

pub whole_block : (st : Standing) (s : List ℕ) → length s ≡ block_size → bytes_in st [] s ≡ standing_in st s
whole_block st [] h = absurd (omega (arith, h))
whole_block st (b ∷ s) h = go (is_due st) refl
  where
    go : (d : Bool) → is_due st ≡ d → bytes_in st [] (b ∷ s) ≡ standing_in st (b ∷ s)
    go true e = filled_up st [] b s e (omega (arith, h))
    go false e = beyond st [] b s e ∙ sym (beyond_is st (b ∷ s) e)

pub block_more : (st : Standing) (s rest : List ℕ) → length s ≡ block_size → bytes_in st [] (s ++ rest) ≡ onward (standing_in st s).text (bytes_in (standing_in st s).standing [] rest)
block_more st s rest h = cut st [] s rest ∙ rw (whole_block st s h) (rw (none_left st s))
