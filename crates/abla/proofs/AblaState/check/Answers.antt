-- Where 31 doesn't apply, the fields are in their ranges.
use Rattle.std.proofs.Common.{sym}
use Rattle.abla.proofs.Rules.{fields_in}
use Rattle.abla.proofs.AblaState.check.Goals as goal

pub is_point_out-requires : goal.is_point_out-requires
is_point_out-requires c = fields_in c.args.x (sym c.if-are_fields_out.ensures)
