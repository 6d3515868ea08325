-- A book second's form: 12 and 16, and the bytes of the three plants. Assumes nothing.
use Rattle.std.specs.Simd.{first_chunks}
use Rattle.std.proofs.Common.{length-take, length-drop, ◌/◌, slice_index_or, [], ◌≡◌, refl, ap, subst, List, ℕ, arith, length, take, length-take, length-drop, drop-drop}
use Rattle.std.proofs.lemmas.Bool.Decides.{nat_tests}
use Rattle.refusals.specs.declared.Refusal.{Refusal}
use Rattle.refusals.specs.Refusals.{number_of}
use Rattle.refusals.proofs.Laws.{Positive, positive, number_positive}
use Rattle.sheet.specs.declared.Sheet.{Sheet}
use Rattle.sheet.specs.Sheet.{InRange}
use Rattle.record.specs.Record.{size, book_size}
use Rattle.book.specs.declared.Book.{Book}
use Rattle.book.specs.Answers.{BookStep, Refused}
use Rattle.book.specs.Seconds.{History, Closed, unit_bytes, a_bytes, b_bytes}
use Rattle.book.specs.Refusals.{form_number, Accepted}
use Rattle.book.specs.State.{second_of, state_of, OverPast, step_by, step_in, PartsOf, PlantsStepped, Ready, Stepped}
use Rattle.book.proofs.Past.{over_past}

pub whole : (o : ℕ) (s : List ℕ) → 0 ≡ form_number (second_of o s) → length s ≡ book_size
unfolding form_number
whole o s e = grind (arith, nat_tests)

module _ (s : List ℕ) (l : length s ≡ book_size) where
  pub unit_length : length (unit_bytes s) ≡ size
  unit_length = simp length-take (omega arith)

  pub a_length : length (a_bytes s) ≡ size
  a_length = simp (length-take, length-drop) (omega arith)

  pub b_length : length (b_bytes s) ≡ size
  b_length = simp (length-take, length-drop) (omega arith)

-- the chunks of a book second are its plants' bytes
pub parts_of : {s : List ℕ} {ps : List (List ℕ)} → length s ≡ book_size → ps ≡ first_chunks size (length s / size) s
    → PartsOf s (slice_index_or ps 0 []) (slice_index_or ps 1 []) (slice_index_or ps 2 [])
parts_of {s} l e =
    let n : length s / size ≡ 3 = omega (arith, l) in
    rw (e, n) (record { unit_part = refl; a_part = refl; b_part = ap (take size) (drop-drop size size s) })

module _ (k : Book) (o : ℕ) (s : List ℕ) where
  by_refusal : {n : ℕ} (given : BookStep) → Positive n → record { answer = Refused n; book = k } ≡ step_by n k given
  by_refusal given (positive n) = refl

  same_sheet : (sh : Sheet) (c : Closed) (h : History) → k ≡ state_of sh c h → k.sheet ≡ sh
  unfolding state_of
  same_sheet sh c h p = ap (λ (b : Book). b.sheet) p

  by_past : Ready k → {r : BookStep} → r ≡ step_in k (second_of o s) → (sh : Sheet) (c : Closed) (h : History) → Accepted c h → k ≡ state_of sh c h → OverPast sh c h (second_of o s) r
  by_past ready e sh c h a p = rw (e, p) (over_past sh (subst InRange (same_sheet sh c h p) ready.unit.sheet) c h a (second_of o s))

  pub refused : (x : Refusal) → number_of x ≡ form_number (second_of o s) → Ready k → Stepped k (second_of o s) (record { answer = Refused (number_of x); book = k })
  unfolding step_in
  refused x e r =
      let is : record { answer = Refused (number_of x); book = k } ≡ step_in k (second_of o s) = rw (← e) (by_refusal _ (number_positive x)) in
      record { is = is; past = by_past r is; ready = r }

  pub stepped : {u a b : List ℕ} {p : BookStep} → Ready k → 0 ≡ form_number (second_of o s) → PartsOf s u a b → PlantsStepped k o u a b p → Stepped k (second_of o s) p
  unfolding step_in
  stepped {p = p} r e parts q = let is : p ≡ step_in k (second_of o s) = rw (← e) (q.is s parts) in record { is = is; past = by_past r is; ready = q.ready }
