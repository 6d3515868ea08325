-- Where the input ends before a record, nothing is put.
use Rattle.std.proofs.Common.{rules}
use Rattle.choose_meter.proofs.Laws.{nothing}
use Rattle.choose_meter.proofs.lines.put_rest.Goals as goal

pub returns-else-not-is_empty : goal.returns-else-not-is_empty
returns-else-not-is_empty c = nothing _ _ c.requires.1 (search rules)
