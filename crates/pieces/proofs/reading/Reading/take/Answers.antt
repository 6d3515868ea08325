-- The whole blocks, then the bytes after them.
use Rattle.std.proofs.Common.{◌<◌, [], length, length-take, take, rules, refl, sym, ◌∙◌, eqb-true, append-nil, arith}
use Rattle.block.specs.Places.{block_size}
use Rattle.pieces.specs.Pieces.{piece_room, Chunked}
use Rattle.pieces.specs.Placed.{placed}
use Rattle.pieces.proofs.Chunks.{start, more, finished, whole_piece}
use Rattle.pieces.proofs.reading.Reading.take.Goals.{then-not-is_empty, else-not-is_empty}
use Rattle.pieces.proofs.reading.Reading.take.Goals as goal

pub returns : goal.returns
returns c =
    let few = c.requires.0 in
    let short : length (take c.args.self.now.filled c.args.self.now.part) < block_size = omega (arith, length-take c.args.self.now.filled c.args.self.now.part) in
    let blocks = more short few (start (omega (arith, c.new-text.ensures.start))) c.split_at.ensures.by_index.0 c.take_blocks.ensures.0 in
    let all : Chunked piece_room (placed c.args.self.now) c.args.bytes.now c.new-text.result c.if-not-is_empty.text (placed c.if-not-is_empty.self) =
    elim c.if-not-is_empty.branch [
      | then-not-is_empty w ↦ rw (w.text-is, w.self-is) (finished (more short few blocks {after = []} (sym (append-nil _)) w.chunk.ensures) refl)
      | else-not-is_empty w ↦ rw (w.text-is, w.self-is) (finished blocks (eqb-true _ _ (sym c.is_empty.ensures ∙ w.if-not-is_empty.false)))
    ]
    in
    let same = all.text.same ∙ c.new-text.ensures.same in
    whole_piece c.new-text.ensures.bytes c.new-text.ensures.start (search rules) all
