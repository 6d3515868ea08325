-- What the lines of kinds outside their bands say of an accepted second, and what the counts are. The proof is `claims` of proofs/Claims.antt.
use Rattle.std.specs.Prelude.{◌≡◌, ◌↔◌, true, List, [], ℕ, ◌≤◌, ℤ, pos, nat_abs, length}
use Prim.Native.Char.{code}
use Rattle.sheet.specs.declared.Sheet.{Sheet}
use Rattle.record.specs.declared.Record.{Record}
use Rattle.record.specs.Record.{record_of}
use Rattle.row.specs.declared.Row.{Row}
use Rattle.sharing.specs.Shares.{some_on}
use Rattle.sharing.specs.Rows.{kinds_on}
use Rattle.plant.specs.Seconds as plant
use Rattle.plant.specs.Claims.{kind_list, error_at, total_at}
use Rattle.book.specs.Seconds.{BookSecond, History, Closed, unit_bytes, past_of, closed_of}
use Rattle.book.specs.Refusals.{number_at, Accepted}
use Rattle.book.specs.Rows.{Pool, pool_a, pool_b, added_to, unit_point, unit_row_at, a_row_at, b_row_at}
use Rattle.book.specs.Run.{accepted}
use Rattle.book.specs.State.{fresh}
use Rattle.tally.specs.Tally.{zero}
use Rattle.line.specs.Short.{short_text}
use Rattle.report.specs.declared.Form.{Form}
use Rattle.report.specs.Kept.{keep}
use Rattle.report.specs.Counts.{kept_of, kept_after}

-- wherever a kind is on, a plant of row r has no line in its second t exactly when its error lies within the summed bands
abbrev pub NoLine : Sheet → plant.Closed → plant.History → Record → ℤ → ℤ → ℕ → ℕ → Row → Type 0
NoLine sh c h x m w t letter r =
    some_on (kinds_on (kind_list sh c h x)) ≡ true → (short_text t letter r ≡ []) ↔ (nat_abs (error_at sh c h x m w) ≤ total_at sh c h x m w)

abbrev pub PoolNoLine : Sheet → Pool → ℕ → Closed → History → BookSecond → Row → Type 0
PoolNoLine sh p letter c h s r =
    NoLine sh (closed_of p.bytes c) (past_of p.bytes h) (record_of (p.bytes s.bytes)) (added_to p s (unit_row_at sh c h s)) (unit_point s.bytes) (length h) letter r

pub record NoLines (sh : Sheet) (c : Closed) (h : History) (s : BookSecond) : Type 0 where
  pub unit : NoLine sh (closed_of unit_bytes c) (past_of unit_bytes h) (record_of (unit_bytes s.bytes)) (pos 0) (pos 0) (length h) (code "U") (unit_row_at sh c h s)
  pub a : PoolNoLine sh pool_a (code "A") c h s (a_row_at sh c h s)
  pub b : PoolNoLine sh pool_b (code "B") c h s (b_row_at sh c h s)

-- for every sheet in range
pub record Claims (sh : Sheet) : Type 0 where
  pub no_line : (c : Closed) (h : History) → Accepted c h → (s : BookSecond) → number_at c h s ≡ 0 → NoLines sh c h s
  -- for every list of book seconds from a fresh book, refused ones included: the counts are the sums over the accepted ones (`tally_of`), beside the book
  pub every_list : (f : Form) (ss : List BookSecond) → kept_after f (keep (fresh sh) zero) ss ≡ kept_of sh [] (accepted [] [] ss)
  -- and from what accepted seconds leave, in this book and in closed ones
  pub lists_after : (f : Form) (c : Closed) (h : History) → Accepted c h → (ss : List BookSecond) → kept_after f (kept_of sh c h) ss ≡ kept_of sh c (accepted c h ss)
