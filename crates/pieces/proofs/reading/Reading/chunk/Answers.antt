-- Bytes that no block is due for.
use Rattle.std.proofs.Common.{sym, ◌∙◌}
use Rattle.pieces.specs.Placed.{placed}
use Rattle.pieces.proofs.Chunks.{past_last_lem}
use Rattle.pieces.proofs.reading.Reading.chunk.Goals as goal

pub returns-else-is_due : goal.returns-else-is_due
returns-else-is_due c =
    past_last_lem (placed c.args.self.now) c.requires.0 c.requires.1 (sym c.is_due.ensures ∙ c.if-is_due.false) c.beyond.ensures
