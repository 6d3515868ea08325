-- A book opens by the sheet's number.
use Rattle.std.proofs.Common.{ap, ◌∙◌}
use Rattle.std.proofs.lemmas.Result.{err_from_is_err_and}
use Rattle.book.specs.State.{fresh}
use Rattle.book.proofs.Opening.{refused, opened}
use Rattle.book.proofs.Book.open.Goals as goal

pub returns-in_err-try_from : goal.returns-in_err-try_from
returns-in_err-try_from c =
    let p = err_from_is_err_and c.from_residual.result c.from_residual.ensures.1 in
    rw (p.1, p.2) (refused _ c.in_err-try_from.field-0.0 c.in_err-try_from.ensures.0)

pub returns : goal.returns
returns c = opened _ c.in_ok-try_from.ensures.0 (c.new.ensures.0 ∙ ap fresh c.in_ok-try_from.ensures.1) c.new.ensures.1
