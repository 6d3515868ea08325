-- The row, from what it is made of.
use Rattle.std.proofs.Common.{rules}
use Rattle.sharing.proofs.Answer.{row_made}
use Rattle.sharing.proofs.plant_row.row_of.Goals as goal

pub returns : goal.returns
returns c =
    row_made _ _ c.minus-due.result _ _ _ _ _ c.shared-parts.result _ _ _ _ c.requires c.minus-due.ensures c.error_of-error.ensures.0 (search rules) c.shared-parts.ensures
    c.row.ensures c.row-2.ensures c.row-3.ensures c.open_of.ensures
