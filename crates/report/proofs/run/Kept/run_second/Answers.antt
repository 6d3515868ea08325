-- A second by the book's answer: rows, or a refusal.
use Rattle.std.proofs.Common.{ap, arith}
use Rattle.std.proofs.lemmas.Result.{err_from_is_err_and}
use Rattle.book.specs.Answers.{book_told}
use Rattle.report.proofs.Seconds.{taken, taken_ready, turned_down, turned_down_ready, rows_of, refusal_is}
use Rattle.report.specs.Kept.{keep}
use Rattle.report.proofs.run.Kept.run_second.Goals as goal

pub invariant_of-self : goal.invariant_of-self
invariant_of-self c = turned_down_ready c.args.plan _ c.args.bytes.now c.second.ensures c.self.invariant

pub returns-in_err-rows : goal.returns-in_err-rows
returns-in_err-rows c =
    let p = err_from_is_err_and c.from_residual.result c.from_residual.ensures.1 in
    let is = refusal_is c.args.plan (keep c.self.inside.book c.self.inside.tally) c.second.new.self c.second.result c.map_err.ensures.cases c.in_err-rows.was in
    rw (p.1, p.2, ← c.self.view_is) (turned_down c.args.plan _ c.args.bytes.now c.second.ensures is (omega arith))

pub invariant_of-self-2 : goal.invariant_of-self-2
invariant_of-self-2 c =
    let is = ap book_told (rows_of c.second.result c.map_err.ensures.cases c.in_ok-rows.was) in
    taken_ready c.args.plan _ c.args.bytes.now c.second.ensures is c.with_second-self-inside.ensures c.self.invariant

pub returns : goal.returns
returns c =
    let is = ap book_told (rows_of c.second.result c.map_err.ensures.cases c.in_ok-rows.was) in
    rw (← c.self.view_is) (taken c.args.plan _ c.args.bytes.now c.second.ensures is c.with_second-self-inside.ensures c.add_second.ensures)
