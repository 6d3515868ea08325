-- A standing and its blocks: what the header's and a later block's readers answered, and the room of the text. Assumes nothing.
use Rattle.record.specs.Record.{most_seconds}
use Rattle.std.proofs.Common.{Result, Ok, Err, is_ok, is_err, leb, ◌≡◌, refl, sym, ap, ◌∙◌, Bool, true, false, cond, true≢false, List, [], ◌∷◌, ℕ, zero, suc, ◌≤◌, arith, eqb, eq-eqb, ne_eqb, leb-true}
use Rattle.std.specs.Result.{MatchResult, IsErrAnd}
use Rattle.refusals.specs.declared.Refusal.{Refusal}
use Rattle.refusals.specs.Refusals.{number_of, number_in}
use Rattle.refusals.proofs.Laws.{not_zero}
use Rattle.book.specs.declared.Book.{Book}
use Rattle.block.specs.declared.Header.{Header}
use Rattle.block.specs.Places.{block_size}
use Rattle.block.specs.Header.{header_number, header_of, header_says}
use Rattle.block.specs.Book.{last_block, past_last}
use Rattle.block.proofs.Taken.{header_fields, header_zero}
use Rattle.codec.specs.declared.lent.Lent.{Lent}
use Rattle.codec.specs.Lent.{HasRoom}
use Rattle.codec.proofs.Lents.{loosen, none}
use Rattle.report.specs.Running.{Verdict, Accepted, Refused, verdict_told, block_in}
use Rattle.report.specs.Text.{block_room}
use Rattle.standing.specs.Standing.{verdict_in, Standing, Went, kept_by, with_verdict, after_header, header_by, later_by, beyond_by, due_by, is_due, standing_in, last_by, bytes_due, Advances}

-- ---- the verdict

pub told_ok : {A : Type 0} (r : Result A ℕ) → is_ok r ≡ true → verdict_in r ≡ Accepted
told_ok (Ok x) h = refl
told_ok (Err n) h = let z : ◌≡◌ {A = Bool} true false = sym h in absurd (true≢false z)

pub told_err : {A : Type 0} (r : Result A ℕ) → is_err r ≡ true → (n : ℕ) × (verdict_in r ≡ Refused n)
told_err (Ok x) h = let z : ◌≡◌ {A = Bool} true false = sym h in absurd (true≢false z)
told_err (Err n) h = (n, refl)

pub due_ok : {A : Type 0} (r : Result A ℕ) (n t : ℕ) → is_ok r ≡ true → due_by (verdict_in r) n t ≡ leb n (last_block t)
due_ok r n t h = rw (told_ok r h)

pub due_err : {A : Type 0} (r : Result A ℕ) (n t : ℕ) → is_ok r ≡ false → due_by (verdict_in r) n t ≡ false
due_err (Ok x) n t h = let z : ◌≡◌ {A = Bool} true false = h in absurd (true≢false z)
due_err (Err e) n t h = refl

-- q is the result r with its refusal's number alone
abbrev pub Numbered : {A : Type 0} → Result A Refusal → Result A ℕ → Type 0
Numbered r q = MatchResult r (λ x. q ≡ Ok x) (λ e. IsErrAnd q (λ n. n ≡ number_of e))

-- such a q says what r says, in a last line too
pub numbered_told : {A : Type 0} (r : Result A Refusal) (q : Result A ℕ) → Numbered r q → verdict_in q ≡ verdict_told r
numbered_told (Ok x) q n = rw n
numbered_told (Err e) (Ok x) n = absurd n
numbered_told (Err e) (Err m) n = rw n

pub last_told : {A : Type 0} (r : Result A Refusal) (q : Result A ℕ) (k : Book) → Numbered r q → last_by (verdict_in q) k ≡ last_by (verdict_told r) k
last_told r q k n = rw (numbered_told r q n)

-- bytes after the last block, where nothing was refused
pub past_last_told : {A : Type 0} (st : Standing) (s : List ℕ) (r : Result A Refusal) (q : Result A ℕ) → st.verdict ≡ Accepted → number_in r ≡ past_last s → Numbered r q → with_verdict st (verdict_in q) ≡ (beyond_by st.verdict st s).standing
past_last_told st [] (Ok x) q a h n = rw (a, n)
past_last_told st [] (Err e) q a h n = absurd (not_zero e h)
past_last_told st (b ∷ s) (Ok x) q a h n = absurd (omega (arith, h))
past_last_told st (b ∷ s) (Err e) (Ok x) a h n = absurd n
past_last_told st (b ∷ s) (Err e) (Err m) a h n = rw (a, n, h)

-- ---- the header

pub few : (s : List ℕ) {r : Result Header Refusal} {h : Header} → r ≡ Ok h → header_says r ≡ header_of s → h.seconds ≤ most_seconds
few s {h = h} is says =
    let f = header_fields s h.owner h.seconds (sym says ∙ ap header_says is) in
    omega (arith, f.0.most, f.2)

module _ (st : Standing) (s : List ℕ) where
  pub header_taken : {r : Result Header Refusal} {h : Header} → r ≡ Ok h → header_says r ≡ header_of s → (header_by (header_number s) st s).standing ≡ after_header st h.owner h.seconds
  header_taken {h = h} is says =
      let f = header_fields s h.owner h.seconds (sym says ∙ ap header_says is) in
      rw (header_zero s f.0, f.1, f.2)

  no_text : (q : ℕ) → (header_by q st s).text ≡ []
  no_text zero = refl
  no_text (suc q) = refl

  pub header_is : is_due st ≡ true → st.next ≡ 0 → standing_in st s ≡ header_by (header_number s) st s
  unfolding standing_in
  header_is d z = rw (d, eq-eqb st.next 0 z)

  pub later_is : is_due st ≡ true → (st.next ≡ 0 → ⊥) → standing_in st s ≡ later_by (block_in st.plan st.next (kept_by st) s) st
  unfolding standing_in
  later_is d z = rw (d, ne_eqb st.next 0 z)

-- ---- bytes that no block is due for

pub refused_not_due : (st : Standing) {n : ℕ} → st.verdict ≡ Refused n → is_due st ≡ false
unfolding is_due
refused_not_due st e = rw e

pub beyond_is : (st : Standing) (s : List ℕ) → is_due st ≡ false → standing_in st s ≡ beyond_by st.verdict st s
unfolding standing_in
beyond_is st s e = rw e

pub beyond_text : (v : Verdict) (st : Standing) (s : List ℕ) → (beyond_by v st s).text ≡ []
beyond_text (Refused n) st s = refl
beyond_text Accepted st [] = refl
beyond_text Accepted st (b ∷ s) = refl

-- ---- no bytes are left over from a block

pub none_left : (st : Standing) (s : List ℕ) → (standing_in st s).part ≡ []
unfolding standing_in
none_left st s = go (is_due st) (eqb st.next 0) (header_number s) st.verdict
  where
    header_part : (n : ℕ) → (header_by n st s).part ≡ []
    header_part zero = refl
    header_part (suc n) = refl

    beyond_part : (v : Verdict) (l : List ℕ) → (beyond_by v st l).part ≡ []
    beyond_part (Refused n) l = refl
    beyond_part Accepted [] = refl
    beyond_part Accepted (b ∷ l) = refl

    go : (d z : Bool) (n : ℕ) (v : Verdict) → (cond d (cond z (header_by n st s) (later_by (block_in st.plan st.next (kept_by st) s) st)) (beyond_by v st s)).part ≡ []
    go true true n v = header_part n
    go true false n v = refl
    go false z n v = beyond_part v s

-- ---- one block

-- one that adds no text
module _ (st : Standing) (s : List ℕ) {r : Standing} {t : Lent} (room : HasRoom block_room t) where
  quiet : {w : Went} → r ≡ w.standing → w.text ≡ [] → Advances block_room t t r w
  quiet is silent = record { standing = is; text = rw silent (loosen (omega arith) (none t (omega (arith, room)))) }

  pub past_due : is_due st ≡ false → r ≡ (beyond_by st.verdict st s).standing → Advances block_room t t r (standing_in st s)
  past_due d is = rw (beyond_is st s d) (quiet is (beyond_text st.verdict st s))

  pub header_block : is_due st ≡ true → st.next ≡ 0 → r ≡ (header_by (header_number s) st s).standing → Advances block_room t t r (standing_in st s)
  header_block d z is = rw (header_is st s d z) (quiet is (no_text st s (header_number s)))

-- ---- the bytes that are due

pub due_next : (st : Standing) → is_due st ≡ true → (st.verdict ≡ Accepted) × (st.next ≤ last_block st.plan.seconds)
unfolding is_due
due_next st d = go st.verdict d
  where
    go : (v : Verdict) → due_by v st.next st.plan.seconds ≡ true → (v ≡ Accepted) × (st.next ≤ last_block st.plan.seconds)
    go (Refused n) e = let z : ◌≡◌ {A = Bool} true false = sym e in absurd (true≢false z)
    go Accepted e = (refl, leb-true _ _ e)

pub due_few : (st : Standing) → st.plan.seconds ≤ most_seconds → is_due st ≡ true → st.next ≤ most_seconds
due_few st f d = omega (arith, (due_next st d).1, f)

pub due_block : (st : Standing) → is_due st ≡ true → block_size ≤ bytes_due st
unfolding bytes_due
due_block st d = omega (arith, (due_next st d).1)
