-- A cut book run second by second and block by block: the text that each adds, and where the book stands then. That all of it is `cut_printed` of the
-- bytes is a claim (specs/Claims.antt).
use Rattle.std.specs.Prelude.{ℕ, zero, suc, Bool, true, false, cond, List, [], ◌∷◌, ◌++◌, eqb, take, drop}
use Rattle.sheet.specs.Sheet.{default_sheet}
use Rattle.codec.specs.Little.{u32_at}
use Rattle.book.specs.Cut.{bytes_back}
use Rattle.book.specs.HandOver.{hand_over_number, handed_over}
use Rattle.book.specs.State.{fresh}
use Rattle.tally.specs.Tally as tally
use Rattle.block.specs.Places.{block_size}
use Rattle.block.specs.Header.{header_number, owner_of, seconds_of}
use Rattle.block.specs.Block.{block_number, count_of, seconds_from}
use Rattle.block.specs.Book.{last_block, past_last}
use Rattle.line.specs.Line.{sum_text}
use Rattle.report.specs.declared.Form.TheVariants.{Figures}
use Rattle.report.specs.Kept.{Kept, keep}
use Rattle.report.specs.declared.run.Plan.{Plan}
use Rattle.report.specs.Running.{Verdict, Accepted, Refused, Ran, refused_at, second_in, after}
use Rattle.standing.specs.Standing.{last_by}
use Rattle.cut.specs.Cut.{count_size}

-- ---- one second

-- what was run, and whether the book that is open then was handed over
pub record CutRan : Type 0 where
  pub ran : Ran
  pub handed : Bool

abbrev pub still : Kept → Bool → CutRan
still k b = record { ran = record { text = []; kept = k; verdict = Accepted }; handed = b }

-- what follows r, where it was accepted; a refusal ends the run
abbrev pub followed : CutRan → Verdict → CutRan → CutRan
followed r Accepted rest = record { ran = after r.ran.text rest.ran; handed = rest.handed }
followed r (Refused n) rest = r

-- the first book's sum line, and the next book open; or the number of the handover, and no other book
abbrev pub opened_by : ℕ → Kept → CutRan
opened_by zero k =
    record { ran = record { text = sum_text k.book.sums; kept = keep (handed_over k.book) tally.zero; verdict = Accepted }; handed = true }
opened_by (suc n) k = record { ran = record { text = sum_text k.book.sums; kept = k; verdict = Refused (suc n) }; handed = false }

unfoldable pub handed_in : Kept → CutRan
handed_in k = opened_by (hand_over_number k.book.unit.seconds) k

-- before a second is judged: it is handed over once, where it has so many seconds
unfoldable pub before_in : ℕ → Kept → Bool → CutRan
before_in at k true = still k true
before_in at k false = cond (eqb k.book.unit.seconds at) (handed_in k) (still k false)

-- the bytes of a second in the seconds of the book that is open
abbrev pub bytes_in : Bool → ℕ → List ℕ → List ℕ
bytes_in true at s = bytes_back at s
bytes_in false at s = s

unfoldable pub judged_in : Plan → ℕ → Kept → Bool → List ℕ → CutRan
judged_in p at k b s = record { ran = second_in p k (bytes_in b at s); handed = b }

abbrev pub second_after : Plan → ℕ → CutRan → List ℕ → CutRan
second_after p at w s = followed w w.ran.verdict (judged_in p at w.ran.kept w.handed s)

unfoldable pub cut_second_in : Plan → ℕ → Kept → Bool → List ℕ → CutRan
cut_second_in p at k b s = second_after p at (before_in at k b) s

-- ---- the seconds of a block

unfoldable pub cut_seconds_in : Plan → ℕ → Kept → Bool → List (List ℕ) → CutRan
cut_seconds_in p at k b [] = still k b
cut_seconds_in p at k b (s ∷ ss) =
    followed (cut_second_in p at k b s) (cut_second_in p at k b s).ran.verdict (cut_seconds_in p at (cut_second_in p at k b s).ran.kept (cut_second_in p at k b s).handed ss)

abbrev pub block_by : ℕ → Plan → ℕ → Kept → Bool → List ℕ → CutRan
block_by zero p at k b s = cut_seconds_in p at k b (seconds_from s 0 (count_of s))
block_by (suc m) p at k b s = record { ran = refused_at k (suc m); handed = b }

unfoldable pub cut_block_in : Plan → ℕ → ℕ → Kept → Bool → List ℕ → CutRan
cut_block_in p at n k b s = block_by (block_number s p.seconds n) p at k b s

-- ---- the whole

-- 0 is no refusal
abbrev pub verdict_of : ℕ → Verdict
verdict_of zero = Accepted
verdict_of (suc n) = Refused (suc n)

-- a block's text, and `rest` where it was accepted, else the last line
abbrev pub goes_on : CutRan → Verdict → List ℕ → List ℕ
goes_on w Accepted rest = w.ran.text ++ rest
goes_on w (Refused n) rest = w.ran.text ++ last_by (Refused n) w.ran.kept.book

-- the bytes s, of which `left` blocks are due from block n on
unfoldable pub blocks_told : Plan → ℕ → ℕ → ℕ → Kept → Bool → List ℕ → List ℕ
blocks_told p at n zero k b s = last_by (verdict_of (past_last s)) k.book
blocks_told p at n (suc left) k b s =
    goes_on (cut_block_in p at n k b (take block_size s)) (cut_block_in p at n k b (take block_size s)).ran.verdict
    (blocks_told p at (suc n) left (cut_block_in p at n k b (take block_size s)).ran.kept (cut_block_in p at n k b (take block_size s)).handed (drop block_size s))

abbrev pub plan_of : List ℕ → Plan
plan_of head = record { form = Figures; owner = owner_of head; seconds = seconds_of head }

abbrev pub told_by : ℕ → ℕ → List ℕ → List ℕ → List ℕ
told_by zero at head s = blocks_told (plan_of head) at 1 (last_block (seconds_of head)) (keep (fresh default_sheet) tally.zero) false s
told_by (suc n) at head s = last_by (Refused (suc n)) (fresh default_sheet)

-- the texts of the count, the header and the blocks, one after the other
unfoldable pub told : List ℕ → List ℕ
told s =
    told_by (header_number (take block_size (drop count_size s))) (u32_at s 0) (take block_size (drop count_size s)) (drop block_size (drop count_size s))
