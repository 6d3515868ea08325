-- A fresh book opened under a sheet (02, W9).
use Rattle.std.specs.Prelude.{ℕ, zero, suc, ◌≡◌}
use Rattle.refusals.specs.Refusals.{Answer, Given, Refused, answer_by, answer_number}
use Rattle.sheet.specs.declared.Sheet.{Sheet}
use Rattle.sheet.specs.Sheet.{default_sheet, sheet_number, InRange}
use Rattle.book.specs.declared.Book.{Book}
use Rattle.book.specs.HandOver.{Opened}
use Rattle.book.specs.State.{fresh, Ready}

-- "30 when a figure is outside its range, before the book opens"
unfoldable pub open_in : Sheet → Answer Book
open_in sh = answer_by (sheet_number sh) (fresh sh)

-- what callers need to go on, of a book that is given
abbrev pub GivenReady : Answer Book → Type 0
GivenReady (Given k) = Ready k
GivenReady (Refused n) = Unit

pub record OpenedUnder (sh : Sheet) (r : Answer Book) : Type 0 where
  pub is : r ≡ open_in sh
  pub number : answer_number r ≡ sheet_number sh
  pub opened : InRange sh → r ≡ Given (fresh sh)
  pub refused : (InRange sh → ⊥) → r ≡ Refused 30
  pub ready : GivenReady r

-- ---- with a book beside a refusal too

-- an answer, and the book beside it
pub record OpeningTold : Type 0 where
  pub answer : Answer Unit
  pub book : Book

-- beside a refusal the book is a fresh one under the default sheet
abbrev pub open_by : ℕ → Sheet → OpeningTold
open_by zero sh = record { answer = Opened; book = fresh sh }
open_by (suc n) sh = record { answer = Refused (suc n); book = fresh default_sheet }

unfoldable pub opening_in : Sheet → OpeningTold
opening_in sh = open_by (sheet_number sh) sh

pub record OpenedOrDefault (sh : Sheet) (r : OpeningTold) : Type 0 where
  pub is : r ≡ opening_in sh
  pub number : answer_number r.answer ≡ sheet_number sh
  pub opened : InRange sh → r ≡ record { answer = Opened; book = fresh sh }
  pub refused : (InRange sh → ⊥) → r ≡ record { answer = Refused 30; book = fresh default_sheet }
  -- what callers need to go on
  pub ready : Ready r.book
