-- The blocks before those that are left are taken, and no block is begun.
use Rattle.std.specs.Slice.Iter.{chunks_exact_rest, chunks_exact_size}
use Rattle.std.proofs.Common.{◌≡◌}
use Rattle.block.specs.Places.{block_size}
use Rattle.pieces.specs.Placed.{placed}
use Rattle.pieces.proofs.Chunks.{Blocks}
use Rattle.pieces.proofs.reading.Reading.take_blocks.Given as goal

abbrev pub invariant-loop-block : goal.invariant-loop-block
invariant-loop-block l =
    (goal.iterator-loop-block).can_next l.block-iterator
    × (goal.iterator-loop-block).is_finite l.block-iterator
    × (chunks_exact_size l.block-iterator ≡ block_size)
    × Blocks (placed l.fn.self) l.bytes l.fn.text l.text (placed l.self) (chunks_exact_rest l.block-iterator)
