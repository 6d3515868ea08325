-- The counts over a past with a second more. Assumes nothing.
use Rattle.std.proofs.Common.{◌≡◌, refl, [], ◌∷◌}
use Rattle.sheet.specs.declared.Sheet.{Sheet}
use Rattle.book.specs.Seconds.{BookSecond, History, Closed}
use Rattle.book.specs.Rows.{unit_row_at, a_row_at, b_row_at}
use Rattle.tally.specs.Tally.{kind_by, tally_with, zero}
use Rattle.report.specs.Counts.{tally_of}

pub tally_none : (sh : Sheet) (c : Closed) → tally_of sh c [] ≡ zero
unfolding tally_of
tally_none sh c = refl

pub tally_more : (sh : Sheet) (c : Closed) (h : History) (s : BookSecond) → tally_of sh c (s ∷ h) ≡ tally_with (tally_of sh c h) (unit_row_at sh c h s) (a_row_at sh c h s) (b_row_at sh c h s)
unfolding tally_of tally_with kind_by
tally_more sh c h s = refl
