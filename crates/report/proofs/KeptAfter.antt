-- What is kept of a past with a second more, accepted or refused, and of a whole list. Assumes nothing.
use Rattle.std.proofs.Common.{◌≡◌, refl, sym, ap, ◌∙◌, List, [], ◌∷◌, ℕ, zero, suc, arith, length}
use Rattle.sheet.specs.declared.Sheet.{Sheet}
use Rattle.sheet.specs.Sheet.{InRange}
use Rattle.plant.specs.State as plant
use Rattle.book.specs.declared.Book.{Book}
use Rattle.book.specs.Answers as answer
use Rattle.book.specs.Answers.{BookAnswer}
use Rattle.book.specs.Seconds.{BookSecond, History, Closed, unit_bytes, past_of}
use Rattle.book.specs.Refusals.{number_at, Accepted, grown}
use Rattle.book.specs.Rows.{unit_row_at, a_row_at, b_row_at, answer_at, number_in}
use Rattle.book.specs.Run.{accepted}
use Rattle.book.specs.State.{state_of, second_of, step_in}
use Rattle.book.proofs.Past.{cleared, over_past}
use Rattle.report.specs.declared.Form.{Form}
use Rattle.report.specs.Kept.{Kept, keep}
use Rattle.report.specs.declared.run.Plan.{Plan}
use Rattle.report.specs.Running.{Accepted as kept_going, Ran, answered, refused_at, second_in}
use Rattle.report.specs.Counts.{kept_of, kept_after}
use Rattle.report.specs.Text.{lines_of}
use Rattle.report.proofs.Past.{tally_more}

-- the seconds accepted so far, as the unit counts them
pub counted : (sh : Sheet) (c : Closed) (h : History) → (state_of sh c h).unit.seconds ≡ length h
unfolding state_of plant.state_of
counted sh c h = go h
  where
    go : (l : History) → length (past_of unit_bytes l) ≡ length l
    go [] = refl
    go (s ∷ l) = ap suc (go l)

pub grown_more : (c : Closed) (h : History) (s : BookSecond) → number_at c h s ≡ 0 → grown c h s ≡ s ∷ h
unfolding grown
grown_more c h s e = rw e

pub grown_same : (c : Closed) (h : History) (s : BookSecond) {n : ℕ} → number_at c h s ≡ suc n → grown c h s ≡ h
unfolding grown
grown_same c h s e = rw e

rows_given : (sh : Sheet) (c : Closed) (h : History) (s : BookSecond) → number_at c h s ≡ 0 → answer_at sh c h s ≡ answer.Rows (unit_row_at sh c h s) (a_row_at sh c h s) (b_row_at sh c h s)
unfolding answer_at
rows_given sh c h s e = let d = cleared c h s e in rw (d.form, d.unit, d.a, d.b)

turned_down : (p : Plan) (k : Kept) (b : Book) (a : BookAnswer) {n : ℕ} → number_in a ≡ suc n → answered p k b a ≡ refused_at (keep b k.tally) (suc n)
turned_down p k b (answer.Rows u x y) e = absurd (omega (arith, e))
turned_down p k b (answer.Refused m) e = rw e
turned_down p k b (answer.RefusedBy w m) e = rw e

module _ (sh : Sheet) (i : InRange sh) (p : Plan) where
  abbrev second : List ℕ → BookSecond
  second s = second_of p.owner s

  pub taken : (c : Closed) (h : History) (s : List ℕ) → Accepted c h → number_at c h (second s) ≡ 0 → second_in p (kept_of sh c h) s ≡ record { text = lines_of p.form (length h) (unit_row_at sh c h (second s)) (a_row_at sh c h (second s)) (b_row_at sh c h (second s)); kept = kept_of sh c (second s ∷ h); verdict = kept_going }
  unfolding second_in
  taken c h s f e =
      let o = over_past sh i c h f (second s) in
      rw (o.answer, o.book, rows_given sh c h (second s) e, grown_more c h (second s) e, counted sh c h, tally_more sh c h (second s))

  pub refused : (c : Closed) (h : History) (s : List ℕ) {n : ℕ} → Accepted c h → number_at c h (second s) ≡ suc n → second_in p (kept_of sh c h) s ≡ refused_at (kept_of sh c h) (suc n)
  unfolding second_in
  refused c h s f e =
      let o = over_past sh i c h f (second s) in
      rw (o.book, grown_same c h (second s) e) (turned_down p (kept_of sh c h) (state_of sh c h) (step_in (state_of sh c h) (second s)).answer (o.number ∙ e))

  kept_second : (c : Closed) (h : History) (s : List ℕ) → Accepted c h → (second_in p (kept_of sh c h) s).kept ≡ kept_of sh c (grown c h (second s))
  kept_second c h s f = go (number_at c h (second s)) refl
    where
      go : (n : ℕ) → number_at c h (second s) ≡ n → (second_in p (kept_of sh c h) s).kept ≡ kept_of sh c (grown c h (second s))
      go zero e = ap (λ (r : Ran). r.kept) (taken c h s f e) ∙ ap (kept_of sh c) (sym (grown_more c h (second s) e))
      go (suc n) e = ap (λ (r : Ran). r.kept) (refused c h s f e) ∙ ap (kept_of sh c) (sym (grown_same c h (second s) e))

pub kept_list : (sh : Sheet) → InRange sh → (f : Form) (ss : List BookSecond) (c : Closed) (h : History) → Accepted c h → kept_after f (kept_of sh c h) ss ≡ kept_of sh c (accepted c h ss)
unfolding kept_after accepted
kept_list sh i f [] c h a = refl
kept_list sh i f (s ∷ ss) c h a =
    ap (λ (k : Kept). kept_after f k ss) (kept_second sh i (record { form = f; owner = s.owner; seconds = 0 }) c h s.bytes a)
    ∙ kept_list sh i f ss c (grown c h s) (over_past sh i c h a s).stays
