-- What comes before the second, and the second where that was accepted.
use Rattle.std.proofs.Common.{refl}
use Rattle.std.proofs.lemmas.Result.{err_from_is_err_and}
use Rattle.cut_run.proofs.Handed.{stopped, went_on}
use Rattle.cut_run.proofs.Cut.second.Goals as goal

pub returns-in_err-before : goal.returns-in_err-before
returns-in_err-before c =
    let p = err_from_is_err_and c.from_residual.result c.from_residual.ensures.1 in
    rw (p.1, p.2) (stopped c.args.self.now c.args.bytes.now c.in_err-before.ensures refl)

pub returns : goal.returns
returns c = went_on c.args.self.now c.args.bytes.now c.in_ok-before.ensures refl c.judge.ensures
