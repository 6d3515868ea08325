-- The seconds of a block in turn: one second's answer, and what the seconds so far added. Assumes nothing.
use Rattle.std.proofs.Common.{Result, Ok, Err, subst, ◌≡◌, ℕ, ◌+◌, ◌*◌, ◌≤◌, ◌<◌, List, [], ◌∷◌, ◌++◌, length, drop, get_or, refl, ap, ◌∙◌, arith, append_assoc, append-nil, add-one, drop-cons}
use Rattle.row.specs.declared.Row.{Row}
use Rattle.std.specs.Result.{MatchResult, IsErrAnd}
use Rattle.refusals.specs.declared.Refusal.{Refusal}
use Rattle.refusals.specs.Refusals.{number_of}
use Rattle.book.specs.declared.BookRows.{BookRows}
use Rattle.book.specs.declared.Book.{Book}
use Rattle.book.specs.declared.BookRefusal.{BookRefusal}
use Rattle.book.specs.declared.BookRefusal.TheVariants.{Form, Of}
use Rattle.book.specs.Answers.{BookStep, Rows, refusal_in, book_told}
use Rattle.book.specs.State.{Stepped}
use Rattle.book.specs.State as book
use Rattle.block.specs.Places.{per_block}
use Rattle.codec.specs.declared.lent.Lent.{Lent}
use Rattle.codec.specs.Lent.{HasRoom, Grown}
use Rattle.codec.proofs.Lents.{both, loosen, none}
use Rattle.tally.specs.declared.Tally.{Tally}
use Rattle.tally.specs.Tally.{TallyCounted}
use Rattle.tally.proofs.Counts.{longer}
use Rattle.report.specs.declared.run.Plan.{Plan}
use Rattle.report.specs.Text.{lines_of, second_room, block_room}
use Rattle.report.specs.Kept.{Kept, keep, KeptReady}
use Rattle.report.specs.Running.{Verdict, Accepted, Refused, refused_at, answered, second_in, after, seconds_in, Adds}
use Rattle.report.proofs.Counting.{Counts, counts}

-- ---- one second

module _ (p : Plan) (k : Kept) (s : List ℕ) {r : BookStep} (f : Stepped k.book (book.second_of p.owner s) r) where
  second_is : second_in p k s ≡ answered p k r.book r.answer
  unfolding second_in
  second_is = rw (← f.is)

  counted : Counts k.book r
  counted = rw f.is (counts k.book (book.second_of p.owner s))

  module _ {u x y : Row} {q : Tally} (is : r.answer ≡ Rows u x y) (g : TallyCounted k.tally u x y q) where
    pub taken : {t v : Lent} → Grown second_room t v (lines_of p.form k.book.unit.seconds u x y) → Adds second_room t v (keep r.book q) Accepted (second_in p k s)
    taken put = rw (second_is, is) (record { kept = rw g.is; verdict = refl; text = put })

    pub taken_ready : KeptReady k → KeptReady (keep r.book q)
    taken_ready ready = record { book = f.ready; counts = rw (counted.one_more u x y is) (g.grows k.book.unit.seconds ready.counts) }

  pub turned_down : {t : Lent} {n : ℕ} → answered p k r.book r.answer ≡ refused_at (keep r.book k.tally) n → t.at ≤ length t.buf.now → Adds second_room t t (keep r.book k.tally) (Refused n) (second_in p k s)
  turned_down {t} is h = rw (second_is, is) (record { kept = refl; verdict = refl; text = loosen (omega arith) (none t h) })

  pub turned_down_ready : KeptReady k → KeptReady (keep r.book k.tally)
  turned_down_ready ready = record { book = f.ready; counts = longer _ _ counted.least k.tally ready.counts }

-- m is the book's result q with its refusal alone
abbrev pub Alone : Result BookRows BookRefusal → Result BookRows Refusal → Type 0
Alone q m = MatchResult q (λ x. m ≡ Ok x) (λ e. IsErrAnd m (λ r. r ≡ refusal_in e))

module _ {m : Result BookRows Refusal} where
  pub rows_of : {x : BookRows} (q : Result BookRows BookRefusal) → Alone q m → m ≡ Ok x → q ≡ Ok x
  rows_of (Ok y) h e = cc
  rows_of (Err b) h e = absurd (subst (λ r. IsErrAnd r (λ r. r ≡ refusal_in b)) e h)

  pub refusal_is : (p : Plan) (k : Kept) (b : Book) {y : Refusal} (q : Result BookRows BookRefusal) → Alone q m → m ≡ Err y → answered p k b (book_told q) ≡ refused_at (keep b k.tally) (number_of y)
  refusal_is p k b (Ok x) h e = cc
  refusal_is p k b (Err (Form f)) h e = rw (subst (λ r. IsErrAnd r (λ r. r ≡ f)) e h) refl
  refusal_is p k b (Err (Of who f)) h e = rw (subst (λ r. IsErrAnd r (λ r. r ≡ f)) e h) refl

-- ---- the seconds so far, and those that are left

-- the seconds ss before the last ones, `rest`, were accepted: they put `added` into the lent buffer t, that is v, and left `now`; all of them give
-- that and what the rest gives
pub record Left (p : Plan) (k : Kept) (ss : List (List ℕ)) (t : Lent) (now : Kept) (v : Lent) (rest : List (List ℕ)) : Type 0 where
  pub added : List ℕ
  pub used : ℕ
  pub put : Grown used t v added
  pub few : used + length rest * second_room ≤ block_room
  pub whole : seconds_in p k ss ≡ after added (seconds_in p now rest)

pub from_next : (ss : List (List ℕ)) (i : ℕ) → i < length ss → drop i ss ≡ get_or ss i [] ∷ drop (i + 1) ss
from_next ss i h = rw add-one (drop-cons ss i [] h)

pub all_left : {p : Plan} {k : Kept} {ss : List (List ℕ)} {t : Lent} → length ss ≤ per_block → HasRoom block_room t → Left p k ss t k t ss
all_left {t = t} short room = record { added = []; used = 0; put = none t (omega (arith, room)); few = omega (arith, short); whole = refl }

module _ {p : Plan} {k now new : Kept} {ss rest later : List (List ℕ)} {x : List ℕ} {t u v : Lent} {w : Verdict} (f : Left p k ss t now u rest) (is : rest ≡ x ∷ later) (d : Adds second_room u v new w (second_in p now x)) where
  pub one_less : w ≡ Accepted → Left p k ss t new v later
  unfolding seconds_in
  one_less a =
      record {
        added = f.added ++ (second_in p now x).text;
        used = f.used + second_room;
        put = both f.put d.text;
        few = omega (arith, f.few, ap length is);
        whole = f.whole ∙ rw (is, ← d.verdict, a, ← d.kept) (rw append_assoc);
      }

  pub one_refused : {n : ℕ} → w ≡ Refused n → Adds block_room t v new w (seconds_in p k ss)
  unfolding seconds_in
  one_refused a =
      let all : seconds_in p k ss ≡ after f.added (second_in p now x) = f.whole ∙ rw (is, ← d.verdict, a) in
      rw all (record { kept = d.kept; verdict = d.verdict; text = loosen (omega (arith, f.few, ap length is)) (both f.put d.text) })

pub none_left : {p : Plan} {k now : Kept} {ss rest : List (List ℕ)} {t v : Lent} → Left p k ss t now v rest → length rest ≡ 0 → Adds block_room t v now Accepted (seconds_in p k ss)
unfolding seconds_in
none_left {rest = []} f h =
    let all = rw append-nil at f.whole in
    rw all (record { kept = refl; verdict = refl; text = loosen (omega (arith, f.few)) f.put })
none_left {rest = x ∷ l} f h = absurd (omega arith)
