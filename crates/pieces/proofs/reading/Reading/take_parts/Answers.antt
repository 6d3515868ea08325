-- One chunk more, and none that is left.
use Rattle.std.proofs.Common.{◌<◌, length, length-take, take, sym, ◌∙◌, eqb-true, arith}
use Rattle.block.specs.Places.{block_size}
use Rattle.pieces.proofs.Chunks.{start, more, finished}
use Rattle.pieces.proofs.reading.Reading.take_parts.Goals as goal

pub loop-rest-init : goal.loop-rest-init
loop-rest-init c = start (omega (arith, c.requires.1))

pub loop-rest-preserved : goal.loop-rest-preserved
loop-rest-preserved c =
    let short : length (take c.args.self.now.filled c.args.self.now.part) < block_size = omega (arith, length-take c.args.self.now.filled c.args.self.now.part) in
    more short c.requires.0 c.loop-rest.invariant c.split_at.ensures.by_index.0 c.chunk.ensures

pub returns : goal.returns
returns c = finished c.loop-rest.invariant (eqb-true _ _ (sym c.is_empty.ensures ∙ c.loop-rest-test.false))
