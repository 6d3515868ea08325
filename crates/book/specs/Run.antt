-- A list of book seconds, refused ones included wherever they fall.
use Rattle.std.specs.Prelude.{List, [], ◌∷◌}
use Rattle.book.specs.declared.Book.{Book}
use Rattle.book.specs.Seconds.{BookSecond, History, Closed}
use Rattle.book.specs.Refusals.{grown}
use Rattle.book.specs.State.{step_in}

-- the book after a list of seconds, the first of them first: "Each later one gets the state that the one before it returned or left"
unfoldable pub book_after : Book → List BookSecond → Book
book_after k [] = k
book_after k (s ∷ ss) = book_after (step_in k s).book ss

-- "A book second is accepted when no refusal number applies to it, judged with the seconds accepted before it": those of a list, newest first,
-- on top of the past h
unfoldable pub accepted : Closed → History → List BookSecond → History
accepted c h [] = h
accepted c h (s ∷ ss) = accepted c (grown c h s) ss
