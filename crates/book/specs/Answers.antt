-- What a book second answers, in document 01's numbers.
use Rattle.std.specs.Prelude.{ℕ, Result, Ok, Err}
use Rattle.refusals.specs.declared.Refusal.{Refusal}
use Rattle.refusals.specs.Refusals.{number_of}
use Rattle.row.specs.declared.Row.{Row}
use Rattle.book.specs.declared.Book.{Book}
use Rattle.book.specs.declared.BookRows.{BookRows}
use Rattle.book.specs.declared.BookRefusal.{BookRefusal}
use Rattle.book.specs.declared.BookRefusal.TheVariants.{Form, Of}
use Rattle.book.specs.declared.Plant.{Plant}

-- the rows of U, A and B; a refusal number that names no plant; or a plant's number
pub data BookAnswer : Type 0 where
  Rows : Row → Row → Row → BookAnswer
  Refused : ℕ → BookAnswer
  RefusedBy : Plant → ℕ → BookAnswer

-- and the book after it
pub record BookStep : Type 0 where
  pub answer : BookAnswer
  pub book : Book

abbrev pub refusal_in : BookRefusal → Refusal
refusal_in (Form e) = e
refusal_in (Of p e) = e

-- what a refusal says, and what a result says
abbrev pub refusal_told : BookRefusal → BookAnswer
refusal_told (Form e) = Refused (number_of e)
refusal_told (Of p e) = RefusedBy p (number_of e)

abbrev pub book_told : Result BookRows BookRefusal → BookAnswer
book_told (Ok r) = Rows r.unit r.a r.b
book_told (Err e) = refusal_told e
