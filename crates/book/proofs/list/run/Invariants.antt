-- The book after the whole list is the book now, carried over the rest.
use Rattle.std.proofs.Common.{◌≡◌, length}
use Rattle.book.specs.State.{Ready}
use Rattle.book.specs.Run.{book_after}
use Rattle.book.specs.List.{listed_in}
use Rattle.book.proofs.list.run.Given as goal

abbrev pub invariant-loop-rest : goal.invariant-loop-rest
invariant-loop-rest l =
    record { ready : Ready l.book; same : book_after l.fn.book (listed_in l.list) ≡ book_after l.book (listed_in l.rest) }

abbrev pub decreases-loop-rest : goal.decreases-loop-rest
decreases-loop-rest l = length l.rest
