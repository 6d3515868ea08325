-- An accepted block has at most 4 seconds; a refused one leaves all as it was.
use Rattle.std.proofs.Common.{arith}
use Rattle.std.proofs.lemmas.Result.{err_from_is_err_and}
use Rattle.block.proofs.Seconds.{read_seconds}
use Rattle.cut_run.proofs.Answered.{in_turn, turned_down}
use Rattle.cut_run.proofs.Cut.block.Goals as goal

pub seconds-requires : goal.seconds-requires
seconds-requires c =
    let f = read_seconds c.args.bytes.now c.args.self.now.plan.seconds c.args.n c.in_ok-seconds.was c.read_block.ensures.count c.read_block.ensures.each in
    (f.few, c.requires)

pub returns-in_err-seconds : goal.returns-in_err-seconds
returns-in_err-seconds c =
    let p = err_from_is_err_and c.from_residual.result c.from_residual.ensures.1 in
    rw (p.1, p.2) (turned_down c.args.self.now c.args.n c.args.bytes.now _ c.in_err-seconds.ensures.count (omega arith))

pub returns : goal.returns
returns c =
    let f = read_seconds c.args.bytes.now c.args.self.now.plan.seconds c.args.n c.in_ok-seconds.was c.read_block.ensures.count c.read_block.ensures.each in
    rw (in_turn c.args.self.now c.args.n c.args.bytes.now _ f.number f.is) c.seconds.ensures
