-- The block is still short, or whole now.
use Rattle.std.proofs.Common.{length-take-le, arith}
use Rattle.pieces.specs.Placed.{placed}
use Rattle.pieces.proofs.Chunks.{gathered, gathered_whole, still_short, now_whole}
use Rattle.pieces.proofs.reading.Reading.fill.Goals as goal

pub returns-then-end-lt-SIZE : goal.returns-then-end-lt-SIZE
returns-then-end-lt-SIZE c =
    let r = c.args.self.now in
    let there = length-take-le r.filled r.part (omega arith) in
    still_short (placed r) c.requires.2 c.requires.1 (omega (arith, there)) (gathered r.filled r.part c.args.bytes.now c.copy_from_slice.ensures.after (omega arith))

pub returns-else-end-lt-SIZE : goal.returns-else-end-lt-SIZE
returns-else-end-lt-SIZE c =
    let r = c.args.self.now in
    let there = length-take-le r.filled r.part (omega arith) in
    let whole = gathered_whole r.filled r.part c.args.bytes.now c.copy_from_slice.ensures.after (omega arith) (omega arith) in
    now_whole (placed r) c.requires.0.some c.requires.1 (omega (arith, there, c.requires.0.fits)) (rw whole at c.block.ensures)
