-- The claims of specs/Claims.antt: no line where all kinds lie within their bands (`silent`), which is where the error does. Assumes nothing.
use Rattle.std.proofs.Common.{◌≡◌, sym, ap, ◌∙◌, List, [], ℕ, ℤ}
use Rattle.sheet.specs.declared.Sheet.{Sheet}
use Rattle.sheet.specs.Sheet.{InRange}
use Rattle.record.specs.declared.Record.{Record}
use Rattle.plant.specs.Seconds as plant
use Rattle.plant.specs.Rows.{row_at}
use Rattle.plant.specs.Claims.{RowHolds}
use Rattle.book.specs.Seconds.{BookSecond, History, Closed}
use Rattle.book.specs.Refusals.{number_at, Accepted}
use Rattle.book.specs.Rows.{unit_row_at, pool_row_at}
use Rattle.book.proofs.Past.{cleared}
use Rattle.book.proofs.Holds.{rows_hold}
use Rattle.book.proofs.Claims.{fresh_is, none_accepted}
use Rattle.line.proofs.Short.{silent}
use Rattle.book.specs.Run.{accepted}
use Rattle.book.specs.State.{fresh}
use Rattle.tally.specs.Tally.{zero}
use Rattle.report.specs.declared.Form.{Form}
use Rattle.report.specs.Kept.{Kept, keep}
use Rattle.report.specs.Counts.{kept_of, kept_after}
use Rattle.report.specs.Claims.{NoLine, NoLines, Claims}
use Rattle.report.proofs.Past.{tally_none}
use Rattle.report.proofs.KeptAfter.{kept_list}

quiet : (sh : Sheet) (c : plant.Closed) (h : plant.History) (x : Record) (m w : ℤ) (t letter : ℕ) → RowHolds sh c h x m w → NoLine sh c h x m w t letter (row_at sh c h x m w)
quiet sh c h x m w t letter f on =
    let l = silent.silent t letter (row_at sh c h x m w) in
    let i = f.within on in
    ((λ e. i.0 (l.0 e)), (λ e. l.1 (i.1 e)))

no_line : (sh : Sheet) → InRange sh → (c : Closed) (h : History) → Accepted c h → (s : BookSecond) → number_at c h s ≡ 0 → NoLines sh c h s
unfolding unit_row_at pool_row_at
no_line sh i c h acc s e =
    let r = rows_hold sh i c h s acc (cleared c h s e) in
    record { unit = quiet sh _ _ _ _ _ _ _ r.unit; a = quiet sh _ _ _ _ _ _ _ r.a; b = quiet sh _ _ _ _ _ _ _ r.b }

begins : (sh : Sheet) → keep (fresh sh) zero ≡ kept_of sh [] []
begins sh = λ i. keep (sym (fresh_is sh) i) (sym (tally_none sh []) i)

every_list : (sh : Sheet) → InRange sh → (f : Form) (ss : List BookSecond) → kept_after f (keep (fresh sh) zero) ss ≡ kept_of sh [] (accepted [] [] ss)
every_list sh i f ss = ap (λ (k : Kept). kept_after f k ss) (begins sh) ∙ kept_list sh i f ss [] [] none_accepted

pub claims : (sh : Sheet) → InRange sh → Claims sh
claims sh i = record { no_line = no_line sh i; every_list = every_list sh i; lists_after = λ f c h a ss. kept_list sh i f ss c h a }
