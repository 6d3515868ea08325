-- What is told of a book piece after piece is what is printed of it, and its sum line balances. The proof is `claims` of proofs/Claims.antt.
use Rattle.std.specs.Prelude.{◌≡◌, List, [], ◌∷◌, ◌++◌, ℕ, length, take, drop, ◌+ℤ◌}
use Rattle.sheet.specs.declared.Sheet.{Sheet}
use Rattle.row.specs.declared.sums.Sums.{Sums}
use Rattle.book.specs.Seconds.{BookSecond}
use Rattle.book.specs.Sums.{sum_a, sum_b, sum_open, sum_due}
use Rattle.book.specs.Run.{accepted}
use Rattle.block.specs.Places.{block_size}
use Rattle.block.specs.Header.{header_number, owner_of, seconds_of}
use Rattle.block.specs.Book.{blocks_of}
use Rattle.line.specs.Line.{sum_text}
use Rattle.report.specs.declared.Form.{Form}
use Rattle.report.specs.Text.{counts_of}
use Rattle.report.specs.Counts.{tally_of}
use Rattle.standing.specs.Standing.{Standing, start}
use Rattle.pieces.specs.Pieces.{bytes_in, last_in, wanted_in}
use Rattle.printed.specs.Printed.{book_seconds, number_in, printed}

-- the texts that `take` puts for the pieces, one after the other, and the last line where they end
unfoldable pub told : Standing → List ℕ → List (List ℕ) → List ℕ
told st p [] = last_in st
told st p (s ∷ ss) = (bytes_in st p s).text ++ told (bytes_in st p s).standing (bytes_in st p s).part ss

abbrev pub joined : List (List ℕ) → List ℕ
joined [] = []
joined (s ∷ ss) = s ++ joined ss

-- the seconds that the blocks of the book s hold
abbrev pub seconds_held : List ℕ → List BookSecond
seconds_held s =
    book_seconds (owner_of (take block_size s)) (blocks_of (seconds_of (take block_size s)) (drop block_size s)).seconds

-- the book s is printed whole: its text ends with a sum line, whose figures are the four sums of demand 3 over the seconds that the blocks hold; in
-- the short form the counts over these seconds stand before it
pub record SumLine (sh : Sheet) (f : Form) (s : List ℕ) : Type 0 where
  pub lines : List ℕ
  pub figures : Sums
  pub text : printed sh f s ≡ lines ++ (counts_of f (tally_of sh [] (accepted [] [] (seconds_held s))) ++ sum_text figures)
  pub a : figures.a.0 ≡ sum_a sh [] (accepted [] [] (seconds_held s))
  pub b : figures.b.0 ≡ sum_b sh [] (accepted [] [] (seconds_held s))
  pub «open» : figures.«open».0 ≡ sum_open sh [] (accepted [] [] (seconds_held s))
  pub due : figures.due.0 ≡ sum_due (accepted [] [] (seconds_held s))
  pub balance : figures.a.0 +ℤ figures.b.0 +ℤ figures.«open».0 ≡ figures.due.0

-- for every sheet in range
pub record Claims (sh : Sheet) : Type 0 where
  -- for every input and every way of cutting it into pieces
  pub any_cut : (f : Form) (ss : List (List ℕ)) → told (start sh f) [] ss ≡ printed sh f (joined ss)
  -- where no more bytes are wanted, none that follow would count
  pub enough : (f : Form) (s more : List ℕ) → wanted_in (bytes_in (start sh f) [] s).standing (length (bytes_in (start sh f) [] s).part) ≡ 0 → printed sh f (s ++ more) ≡ printed sh f s
  -- a header and blocks and seconds without a number give a sum line
  pub sum_line : (f : Form) (s : List ℕ) → header_number (take block_size s) ≡ 0 → number_in sh f (owner_of (take block_size s)) (seconds_of (take block_size s)) (drop block_size s) ≡ 0 → SumLine sh f s
