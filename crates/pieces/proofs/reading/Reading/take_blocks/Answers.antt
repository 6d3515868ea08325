-- One block more, and none that is left.
use Rattle.std.proofs.Common.{◌≡◌, ◌∙◌, ℕ, length, ap, arith}
use Rattle.std.specs.Slice.Iter.{chunks_exact_rest, chunks_exact_size}
use Rattle.block.specs.Places.{block_size}
use Rattle.pieces.proofs.Chunks.{start, one_block, finished}
use Rattle.pieces.proofs.reading.Reading.take_blocks.Goals as goal

pub loop-block-init : goal.loop-block-init
loop-block-init c =
    let same = c.into_iter-block-iterator.ensures.into_iter_gives in
    let items = c.chunks_exact-block-items.ensures in
    let size : chunks_exact_size c.into_iter-block-iterator.result ≡ block_size = ap (chunks_exact_size {T = ℕ}) same ∙ items.size in
    let rest = ap (chunks_exact_rest {T = ℕ}) same ∙ items.rest in
    (omega (arith, size), tt, size, rw rest (record { through = start (omega (arith, c.requires.3)); empty = c.requires.0; even = c.requires.1 }))

pub loop-block-preserved : goal.loop-block-preserved
loop-block-preserved c =
    let inv = c.loop-block.invariant in
    let steps = c.in-Some.ensures.steps in
    (omega (arith, steps.0, inv.0), tt, steps.0 ∙ inv.2, one_block c.in-Some.block.now (omega (arith, ap length c.requires.0)) c.requires.2 inv.3 steps.1.0 (steps.1.1 ∙ inv.2) c.block.ensures)

pub returns : goal.returns
returns c =
    let inv = c.loop-block.invariant in
    let steps = c.in-None.ensures.steps in
    let none_left : length (chunks_exact_rest c.loop-block.block-iterator) ≡ 0 = omega (arith, steps.1.0, inv.2, inv.3.even) in
    (finished inv.3.through none_left, inv.3.empty)
