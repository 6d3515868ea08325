-- What is printed of a book: from all the bytes of standard input to all those of standard output (01, "Blocks and text" and "When a book is
-- turned down"). No buffer, read or state stands here.
use Rattle.std.specs.Prelude.{List, [], ◌∷◌, ◌++◌, map, ℕ, zero, suc, length, take, drop}
use Rattle.numbers.specs.Rules.{or_else}
use Rattle.sheet.specs.declared.Sheet.{Sheet}
use Rattle.book.specs.Seconds.{BookSecond, History, Closed}
use Rattle.book.specs.Refusals.{number_at}
use Rattle.book.specs.Rows.{unit_row_at, a_row_at, b_row_at}
use Rattle.book.specs.Sums.{sums_of}
use Rattle.book.specs.State.{second_of}
use Rattle.block.specs.Places.{block_size}
use Rattle.block.specs.Header.{header_number, owner_of, seconds_of}
use Rattle.block.specs.Book.{blocks_of}
use Rattle.line.specs.Line.{sum_text, refusal_text}
use Rattle.report.specs.declared.Form.{Form}
use Rattle.report.specs.Text.{lines_of, counts_of}
use Rattle.report.specs.Counts.{tally_of}

-- ---- the seconds judged in turn

-- the lines of those accepted, all accepted seconds, newest first, and the number of the one that is refused, 0 where none is
pub record Judged : Type 0 where
  pub text : List ℕ
  pub past : History
  pub number : ℕ

-- second s after the closed books c and the seconds h, where its number is n and `rest` is what the seconds after it give
abbrev pub judged_by : Sheet → ℕ → Form → Closed → History → BookSecond → Judged → Judged
judged_by sh zero f c h s rest =
    record {
      text = lines_of f (length h) (unit_row_at sh c h s) (a_row_at sh c h s) (b_row_at sh c h s) ++ rest.text;
      past = rest.past;
      number = rest.number;
    }
judged_by sh (suc n) f c h s rest = record { text = []; past = h; number = suc n }

unfoldable pub judged : Sheet → Form → Closed → History → List BookSecond → Judged
judged sh f c h [] = record { text = []; past = h; number = 0 }
judged sh f c h (s ∷ ss) = judged_by sh (number_at c h s) f c h s (judged sh f c (s ∷ h) ss)

-- ---- the last line

-- "then a sum line"; "A refusal prints `refused N at S` instead of the rest, S being seconds accepted so far."
abbrev pub last_text : Sheet → ℕ → Closed → History → List ℕ
last_text sh zero c h = sum_text (sums_of sh c h)
last_text sh (suc n) c h = refusal_text (suc n) (length h)

-- in the short form the counts over the accepted seconds stand before it
unfoldable pub end_text : Sheet → Form → ℕ → Closed → History → List ℕ
end_text sh f n c h = counts_of f (tally_of sh c h) ++ last_text sh n c h

-- ---- the whole

-- the seconds of a book of owner o
abbrev pub book_seconds : ℕ → List (List ℕ) → List BookSecond
book_seconds o ss = map (second_of o) ss

-- those of its blocks s, where it has t seconds, judged from a fresh book
abbrev pub judged_in : Sheet → Form → ℕ → ℕ → List ℕ → Judged
judged_in sh f o t s = judged sh f [] [] (book_seconds o (blocks_of t s).seconds)

-- the number that ends the text, 0 where a sum line does: the second's that is refused, else the block's
abbrev pub number_in : Sheet → Form → ℕ → ℕ → List ℕ → ℕ
number_in sh f o t s = or_else (judged_in sh f o t s).number (blocks_of t s).number

abbrev pub printed_by : Sheet → ℕ → Form → List ℕ → List ℕ → List ℕ
printed_by sh zero f head s =
    (judged_in sh f (owner_of head) (seconds_of head) s).text
    ++ end_text sh f (number_in sh f (owner_of head) (seconds_of head) s) [] (judged_in sh f (owner_of head) (seconds_of head) s).past
printed_by sh (suc n) f head s = end_text sh f (suc n) [] []

-- "The program reads a book from standard input and prints a line a second, then a sum line": the book s under the sheet sh
unfoldable pub printed : Sheet → Form → List ℕ → List ℕ
printed sh f s = printed_by sh (header_number (take block_size s)) f (take block_size s) (drop block_size s)
