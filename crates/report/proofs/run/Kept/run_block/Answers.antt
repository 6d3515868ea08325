-- An accepted block has at most 4 seconds; a refused one leaves all as it was.
use Rattle.std.proofs.Common.{arith}
use Rattle.std.proofs.lemmas.Result.{err_from_is_err_and}
use Rattle.block.proofs.Seconds.{read_seconds}
use Rattle.report.proofs.Blocks.{in_turn, turned_down}
use Rattle.report.proofs.run.Kept.run_block.Goals as goal

pub run_seconds-requires : goal.run_seconds-requires
run_seconds-requires c =
    let f = read_seconds c.args.block.now c.args.plan.seconds c.args.n c.in_ok-seconds.was c.read_block.ensures.count c.read_block.ensures.each in
    (f.few, c.requires)

pub returns-in_err-seconds : goal.returns-in_err-seconds
returns-in_err-seconds c =
    let p = err_from_is_err_and c.from_residual.result c.from_residual.ensures.1 in
    rw (p.1, p.2) (turned_down c.args.plan c.args.n c.args.block.now _ c.args.self.now c.in_err-seconds.ensures.count (omega arith))

pub returns : goal.returns
returns c =
    let f = read_seconds c.args.block.now c.args.plan.seconds c.args.n c.in_ok-seconds.was c.read_block.ensures.count c.read_block.ensures.each in
    rw (in_turn c.args.plan c.args.n c.args.block.now _ c.args.self.now f.number f.is) c.run_seconds.ensures
