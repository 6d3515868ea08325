-- A book second of the right form goes on with its plants' bytes.
use Rattle.std.proofs.lemmas.Result.{err_from_is_err_and}
use Rattle.book.proofs.Form.{whole, parts_of, refused, stepped}
use Rattle.book.proofs.Book.second.Goals as goal

pub returns-in_err-check_form : goal.returns-in_err-check_form
returns-in_err-check_form c =
    let p = err_from_is_err_and c.from_residual.result c.from_residual.ensures.1 in
    rw (p.1, p.2) (refused _ _ _ c.in_err-check_form.field-0.0 c.in_err-check_form.ensures c.requires)

pub returns : goal.returns
returns c =
    stepped _ _ _ c.requires c.in_ok-check_form.ensures (parts_of (whole _ _ c.in_ok-check_form.ensures) c.as_chunks.ensures.front) c.plants.ensures
