-- What is kept of a book's accepted seconds.
use Rattle.book.specs.declared.Book.{Book}
use Rattle.book.specs.State.{Ready}
use Rattle.tally.specs.declared.Tally.{Tally}
use Rattle.tally.specs.Tally.{TallyWithin}

-- the book, and how often each kind stood outside its band
pub record Kept : Type 0 where
  pub book : Book
  pub tally : Tally

abbrev pub keep : Book → Tally → Kept
keep k q = record { book = k; tally = q }

-- the book is ready, and no count is larger than its seconds allow
pub record KeptReady (k : Kept) : Type 0 where
  pub book : Ready k.book
  pub counts : TallyWithin k.book.unit.seconds k.tally
