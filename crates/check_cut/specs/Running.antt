-- What the program's operations answer: the header, the book before its first second, and where it stands after a block.
use Rattle.std.specs.Prelude.{◌≡◌, ℕ, ◌≤◌, false, List, Result, Ok, Err}
use Rattle.refusals.specs.Refusals.{number_of, Answer, answer_by}
use Rattle.refusals.specs.Refusals as answer
use Rattle.sheet.specs.Sheet.{default_sheet}
use Rattle.record.specs.Record.{most_seconds}
use Rattle.book.specs.State.{fresh}
use Rattle.tally.specs.Tally as tally
use Rattle.block.specs.Header.{header_number}
use Rattle.report.specs.declared.run.Plan.{Plan}
use Rattle.report.specs.Running as verdict
use Rattle.report.specs.Kept.{keep}
use Rattle.report.specs.Running.{Verdict}
use Rattle.cut.specs.Running.{CutRan, cut_block_in, plan_of}
use Rattle.cut_run.specs.declared.Cut.{Cut}
use Rattle.check_cut.specs.declared.Stop.{Stop}
use Rattle.check_cut.specs.declared.Stop.TheVariants.{Refused, Unsent}

-- ---- the header

-- a book has no more seconds
abbrev pub FewSeconds : Answer Plan → Type 0
FewSeconds (answer.Given p) = p.seconds ≤ most_seconds
FewSeconds (answer.Refused n) = Unit

pub record Opens (s : List ℕ) (r : Answer Plan) : Type 0 where
  pub is : r ≡ answer_by (header_number s) (plan_of s)
  pub few : FewSeconds r

-- ---- before the header

pub record IsStart (at : ℕ) (r : Cut) : Type 0 where
  pub cut_at : r.at ≡ at
  pub kept : r.kept ≡ keep (fresh default_sheet) tally.zero
  pub handed : r.handed ≡ false

-- ---- after a block

-- where its text was sent, the result says the verdict
abbrev pub Says : Result (Unit {0}) Stop → Verdict → Type 0
Says (Ok x) v = v ≡ verdict.Accepted
Says (Err (Refused e)) v = v ≡ verdict.Refused (number_of e)
Says (Err Unsent) v = Unit

abbrev pub ran_in : ℕ → Cut → List ℕ → CutRan
ran_in n c s = cut_block_in c.plan c.at n c.kept c.handed s

-- block n of some bytes
pub record AfterBlock (n : ℕ) (before after : Cut) (r : Result (Unit {0}) Stop) : Type 0 where
  pub bytes : List ℕ
  pub kept : after.kept ≡ (ran_in n before bytes).ran.kept
  pub verdict : Says r (ran_in n before bytes).ran.verdict
  pub handed : after.handed ≡ (ran_in n before bytes).handed
  pub plan : after.plan ≡ before.plan
  pub cut_at : after.at ≡ before.at
