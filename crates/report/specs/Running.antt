-- A block run second by second: the text that it adds, what is kept after it, and its verdict.
use Rattle.std.specs.Prelude.{◌≡◌, ℕ, zero, suc, List, [], ◌∷◌, ◌++◌, Result, Ok, Err}
use Rattle.refusals.specs.declared.Refusal.{Refusal}
use Rattle.refusals.specs.Refusals.{number_of}
use Rattle.book.specs.declared.Book.{Book}
use Rattle.book.specs.Answers as answer
use Rattle.book.specs.Answers.{BookAnswer}
use Rattle.book.specs.State.{step_in}
use Rattle.book.specs.State as book
use Rattle.tally.specs.Tally.{tally_with}
use Rattle.block.specs.Block.{block_number, count_of, seconds_from}
use Rattle.codec.specs.declared.lent.Lent.{Lent}
use Rattle.codec.specs.Lent.{Grown}
use Rattle.report.specs.Kept.{Kept, keep}
use Rattle.report.specs.declared.run.Plan.{Plan}
use Rattle.report.specs.Text.{lines_of}

-- ---- the verdict

-- all accepted so far, or the number of the refusal that ends the text
pub data Verdict : Type 0 where
  Accepted : Verdict
  Refused : ℕ → Verdict

-- what a result says of a run
abbrev pub verdict_told : {A : Type 0} → Result A Refusal → Verdict
verdict_told (Ok x) = Accepted
verdict_told (Err e) = Refused (number_of e)

-- ---- the seconds of a block

pub record Ran : Type 0 where
  pub text : List ℕ
  pub kept : Kept
  pub verdict : Verdict

abbrev pub refused_at : Kept → ℕ → Ran
refused_at k n = record { text = []; kept = k; verdict = Refused n }

-- a second that the book answered so, where k was kept before it and b is the book after it: only an accepted one is counted
abbrev pub answered : Plan → Kept → Book → BookAnswer → Ran
answered p k b (answer.Rows u x y) =
    record {
      text = lines_of p.form k.book.unit.seconds u x y;
      kept = keep b (tally_with k.tally u x y);
      verdict = Accepted;
    }
answered p k b (answer.Refused n) = refused_at (keep b k.tally) n
answered p k b (answer.RefusedBy who n) = refused_at (keep b k.tally) n

-- the second of bytes s, where k is kept before it
unfoldable pub second_in : Plan → Kept → List ℕ → Ran
second_in p k s =
    answered p k (step_in k.book (book.second_of p.owner s)).book (step_in k.book (book.second_of p.owner s)).answer

-- what r gives, with the text t before it
abbrev pub after : List ℕ → Ran → Ran
after t r = record { text = t ++ r.text; kept = r.kept; verdict = r.verdict }

-- what follows r, where it was accepted; a refusal ends the run
abbrev pub followed : Ran → Verdict → Ran → Ran
followed r Accepted rest = after r.text rest
followed r (Refused n) rest = r

-- the seconds of a list in turn, from the kept k on
unfoldable pub seconds_in : Plan → Kept → List (List ℕ) → Ran
seconds_in p k [] = record { text = []; kept = k; verdict = Accepted }
seconds_in p k (s ∷ ss) =
    followed (second_in p k s) (second_in p k s).verdict (seconds_in p (second_in p k s).kept ss)

abbrev pub block_by : ℕ → Plan → Kept → List ℕ → Ran
block_by zero p k s = seconds_in p k (seconds_from s 0 (count_of s))
block_by (suc m) p k s = refused_at k (suc m)

-- block n of bytes s: "A block is wholly read before its first second is judged" (docs/DECISIONS.md)
unfoldable pub block_in : Plan → ℕ → Kept → List ℕ → Ran
block_in p n k s = block_by (block_number s p.seconds n) p k s

-- ---- what the operations answer

-- with text of at most m bytes put into the lent buffer t, which is u then; k is kept, and v is the verdict
pub record Adds (m : ℕ) (t u : Lent) (k : Kept) (v : Verdict) (w : Ran) : Type 0 where
  pub kept : k ≡ w.kept
  pub verdict : v ≡ w.verdict
  pub text : Grown m t u w.text
