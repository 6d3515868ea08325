-- The bytes before `rest` are taken.
use Rattle.std.proofs.Common.{length}
use Rattle.pieces.specs.Placed.{placed}
use Rattle.pieces.proofs.Chunks.{Through}
use Rattle.pieces.proofs.reading.Reading.take_parts.Given as goal

abbrev pub invariant-loop-rest : goal.invariant-loop-rest
invariant-loop-rest l = Through (placed l.fn.self) l.bytes l.fn.text l.text (placed l.self) l.rest

abbrev pub decreases-loop-rest : goal.decreases-loop-rest
decreases-loop-rest l = length l.rest
