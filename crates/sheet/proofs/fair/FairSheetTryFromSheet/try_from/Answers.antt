-- What the check doesn't turn down is in range.
use Rattle.std.proofs.Common.{sym}
use Rattle.sheet.proofs.Ranges.{in_range}
use Rattle.sheet.proofs.fair.FairSheetTryFromSheet.try_from.Goals as goal

pub invariant_of-result : goal.invariant_of-result
invariant_of-result c = record { in_range = in_range _ (sym c.in_ok-check.ensures) }
