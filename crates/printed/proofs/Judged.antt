-- The seconds of a block run on the book that a past left are the ones judged over that past. Assumes nothing.
use Rattle.std.proofs.Common.{◌≡◌, refl, sym, ap, ◌∙◌, List, [], ◌∷◌, ◌++◌, append_assoc, ℕ, zero, suc, arith, length}
use Rattle.sheet.specs.declared.Sheet.{Sheet}
use Rattle.sheet.specs.Sheet.{InRange}
use Rattle.book.specs.Seconds.{BookSecond, History, Closed}
use Rattle.book.specs.Refusals.{number_at, Accepted, grown}
use Rattle.book.specs.Rows.{unit_row_at, a_row_at, b_row_at}
use Rattle.book.specs.Run.{accepted}
use Rattle.book.specs.State.{second_of}
use Rattle.report.specs.declared.Form.{Form}
use Rattle.report.specs.declared.run.Plan.{Plan}
use Rattle.report.specs.Running as verdict
use Rattle.report.specs.Running.{Verdict, Ran, seconds_in}
use Rattle.report.specs.Counts.{kept_of}
use Rattle.report.proofs.KeptAfter.{grown_more, taken, refused}
use Rattle.report.specs.Text.{lines_of}
use Rattle.printed.specs.Printed.{Judged, judged_by, judged, book_seconds}

-- what a number says of the run
abbrev pub verdict_of : ℕ → Verdict
verdict_of zero = verdict.Accepted
verdict_of (suc n) = verdict.Refused (suc n)

pub record Agrees (sh : Sheet) (c : Closed) (r : Ran) (j : Judged) : Type 0 where
  pub text : r.text ≡ j.text
  pub kept : r.kept ≡ kept_of sh c j.past
  pub verdict : r.verdict ≡ verdict_of j.number
  pub accepted : Accepted c j.past

module _ (sh : Sheet) (i : InRange sh) (p : Plan) where
  abbrev second : List ℕ → BookSecond
  second s = second_of p.owner s

  pub agree : (l : List (List ℕ)) (c : Closed) (h : History) → Accepted c h → Agrees sh c (seconds_in p (kept_of sh c h) l) (judged sh p.form c h (book_seconds p.owner l))
  unfolding seconds_in judged Accepted
  agree [] c h f = record { text = refl; kept = refl; verdict = refl; accepted = f }
  agree (s ∷ l) c h f = go (number_at c h (second s)) refl (λ e. agree l c (second s ∷ h) (e, f))
    where
      go : (n : ℕ) → number_at c h (second s) ≡ n → (number_at c h (second s) ≡ 0 → Agrees sh c (seconds_in p (kept_of sh c (second s ∷ h)) l) (judged sh p.form c (second s ∷ h) (book_seconds p.owner l))) → Agrees sh c (seconds_in p (kept_of sh c h) (s ∷ l)) (judged sh p.form c h (book_seconds p.owner (s ∷ l)))
      go zero e others =
          let rest = others e in
          rw (e, taken sh i p c h s f e)
          (record {
            text = ap (λ (t : List ℕ). lines_of p.form (length h) (unit_row_at sh c h (second s)) (a_row_at sh c h (second s)) (b_row_at sh c h (second s)) ++ t) rest.text;
            kept = rest.kept;
            verdict = rest.verdict;
            accepted = rest.accepted;
          })
      go (suc n) e others = rw (e, refused sh i p c h s f e) (record { text = refl; kept = refl; verdict = refl; accepted = f })

-- ---- a list in two parts

abbrev pub then : ℕ → Judged → Judged → Judged
then zero j k = record { text = j.text ++ k.text; past = k.past; number = k.number }
then (suc n) j k = j

pub two_parts : (sh : Sheet) (f : Form) (c : Closed) (h : History) (l m : List BookSecond) → judged sh f c h (l ++ m) ≡ then (judged sh f c h l).number (judged sh f c h l) (judged sh f c (judged sh f c h l).past m)
unfolding judged
two_parts sh f c h [] m = refl
two_parts sh f c h (s ∷ l) m = go (number_at c h s) (judged sh f c (s ∷ h) l).number refl (two_parts sh f c (s ∷ h) l m)
  where
    go : (n q : ℕ) → (judged sh f c (s ∷ h) l).number ≡ q → judged sh f c (s ∷ h) (l ++ m) ≡ then (judged sh f c (s ∷ h) l).number (judged sh f c (s ∷ h) l) (judged sh f c (judged sh f c (s ∷ h) l).past m) → judged_by sh n f c h s (judged sh f c (s ∷ h) (l ++ m)) ≡ then (judged_by sh n f c h s (judged sh f c (s ∷ h) l)).number (judged_by sh n f c h s (judged sh f c (s ∷ h) l)) (judged sh f c (judged_by sh n f c h s (judged sh f c (s ∷ h) l)).past m)
    go (suc n) q e rest = refl
    go zero zero e rest = rw (rest, e) (rw append_assoc)
    go zero (suc q) e rest = rw (rest, e) (rw e)

-- ---- where none is refused, all are accepted

pub all_accepted : (sh : Sheet) (f : Form) (c : Closed) (h : History) (l : List BookSecond) → (judged sh f c h l).number ≡ 0 → (judged sh f c h l).past ≡ accepted c h l
unfolding judged accepted
all_accepted sh f c h [] e = refl
all_accepted sh f c h (s ∷ l) e = go (number_at c h s) refl e (all_accepted sh f c (s ∷ h) l)
  where
    go : (n : ℕ) → number_at c h s ≡ n → (judged_by sh n f c h s (judged sh f c (s ∷ h) l)).number ≡ 0 → ((judged sh f c (s ∷ h) l).number ≡ 0 → (judged sh f c (s ∷ h) l).past ≡ accepted c (s ∷ h) l) → (judged_by sh n f c h s (judged sh f c (s ∷ h) l)).past ≡ accepted c (grown c h s) l
    go zero q z rest = rest z ∙ ap (λ (k : History). accepted c k l) (sym (grown_more c h s q))
    go (suc n) q z rest = absurd (omega (arith, z))
