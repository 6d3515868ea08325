-- A book block after block: what each block adds to the text, where the book stands then, and what the end of the bytes says.
use Rattle.std.specs.Prelude.{◌≡◌, ℕ, zero, suc, ◌+◌, ◌*◌, ◌-◌, Bool, true, false, cond, List, [], ◌∷◌, eqb, leb, Result, Ok, Err}
use Rattle.sheet.specs.declared.Sheet.{Sheet}
use Rattle.book.specs.declared.Book.{Book}
use Rattle.book.specs.State.{fresh}
use Rattle.tally.specs.Tally as tally
use Rattle.block.specs.Places.{block_size}
use Rattle.block.specs.Header.{header_number, owner_of, seconds_of}
use Rattle.block.specs.Book.{last_block}
use Rattle.codec.specs.declared.lent.Lent.{Lent}
use Rattle.codec.specs.Lent.{Grown}
use Rattle.line.specs.Line.{sum_text, refusal_text}
use Rattle.tally.specs.declared.Tally.{Tally}
use Rattle.report.specs.declared.Form.{Form}
use Rattle.report.specs.declared.run.Plan.{Plan}
use Rattle.report.specs.Kept.{Kept, keep}
use Rattle.report.specs.Running.{Verdict, Accepted, Refused, Ran, block_in}

-- ---- the verdict

-- what a result says whose error is a refusal's number
abbrev pub verdict_in : {A : Type 0} → Result A ℕ → Verdict
verdict_in (Ok x) = Accepted
verdict_in (Err n) = Refused n

-- ---- where a book stands

-- between two of its blocks: `next` is the number of the block next in turn, 0 for the header
pub record Standing : Type 0 where
  pub plan : Plan
  pub next : ℕ
  pub book : Book
  pub tally : Tally
  pub verdict : Verdict

-- ---- block after block

-- the text that is added, where the book stands after it, and the bytes of the next block that are there
pub record Went : Type 0 where
  pub text : List ℕ
  pub standing : Standing
  pub part : List ℕ

abbrev pub unmoved : Standing → List ℕ → Went
unmoved st p = record { text = []; standing = st; part = p }

-- before the header its seconds count as 0, so that block 0, the header, is due
unfoldable pub start : Sheet → Form → Standing
start sh f = record { plan = record { form = f; owner = 0; seconds = 0 }; next = 0; book = fresh sh; tally = tally.zero; verdict = Accepted }

-- what it keeps of the accepted seconds
abbrev pub kept_by : Standing → Kept
kept_by st = keep st.book st.tally

abbrev pub with_verdict : Standing → Verdict → Standing
with_verdict st v = record { plan = st.plan; next = st.next; book = st.book; tally = st.tally; verdict = v }

abbrev pub after_header : Standing → ℕ → ℕ → Standing
after_header st o t = record { plan = record { form = st.plan.form; owner = o; seconds = t }; next = 1; book = st.book; tally = st.tally; verdict = st.verdict }

abbrev pub header_by : ℕ → Standing → List ℕ → Went
header_by zero st s = unmoved (after_header st (owner_of s) (seconds_of s)) []
header_by (suc n) st s = unmoved (with_verdict st (Refused (suc n))) []

abbrev pub later_by : Ran → Standing → Went
later_by r st =
    record {
      text = r.text;
      standing = record { plan = st.plan; next = st.next + 1; book = r.kept.book; tally = r.kept.tally; verdict = r.verdict };
      part = [];
    }

-- bytes that no block is due for: after the last one they are refused, after a refusal nothing counts
abbrev pub beyond_by : Verdict → Standing → List ℕ → Went
beyond_by (Refused n) st s = unmoved st []
beyond_by Accepted st [] = unmoved st []
beyond_by Accepted st (b ∷ s) = unmoved (with_verdict st (Refused 21)) []

abbrev pub due_by : Verdict → ℕ → ℕ → Bool
due_by (Refused n) next t = false
due_by Accepted next t = leb next (last_block t)

-- whether a block is due
unfoldable pub is_due : Standing → Bool
is_due st = due_by st.verdict st.next st.plan.seconds

-- the block s, or bytes s where none is due
unfoldable pub standing_in : Standing → List ℕ → Went
standing_in st s =
    cond (is_due st)
    (cond (eqb st.next 0) (header_by (header_number s) st s) (later_by (block_in st.plan st.next (kept_by st) s) st))
    (beyond_by st.verdict st s)

-- ---- the end of the bytes

-- "12 for a short block": one that is due and isn't whole
abbrev pub end_by : Bool → Verdict → Verdict
end_by true v = Refused 12
end_by false v = v

unfoldable pub end_of : Standing → Verdict
end_of st = end_by (is_due st) st.verdict

abbrev pub last_by : Verdict → Book → List ℕ
last_by Accepted k = sum_text k.sums
last_by (Refused n) k = refusal_text n k.unit.seconds

unfoldable pub last_line_in : Standing → List ℕ
last_line_in st = last_by (end_of st) st.book

-- ---- what the operations ask and answer

-- the bytes of the blocks that are due
unfoldable pub bytes_due : Standing → ℕ
bytes_due st = (last_block st.plan.seconds + 1 - st.next) * block_size

-- with text of at most m bytes put into the lent buffer t, which is u then; r is where the book stands then
pub record Advances (m : ℕ) (t u : Lent) (r : Standing) (w : Went) : Type 0 where
  pub standing : r ≡ w.standing
  pub text : Grown m t u w.text
