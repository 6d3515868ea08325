-- What is printed of a book that is cut once (02, W7): from all the bytes of standard input, a count of 4 bytes and a book, to all those of standard
-- output. The seconds before the count stand in a fresh book, those from it on in the one that it is handed over to.
use Rattle.std.specs.Prelude.{List, [], ◌∷◌, ◌++◌, map, ℕ, zero, suc, length, take, drop}
use Rattle.sheet.specs.Sheet.{default_sheet}
use Rattle.codec.specs.Little.{u32_at}
use Rattle.numbers.specs.Rules.{or_else}
use Rattle.book.specs.Seconds.{History, Closed}
use Rattle.book.specs.Cut.{bytes_back}
use Rattle.book.specs.HandOver.{hand_over_number}
use Rattle.block.specs.Places.{block_size}
use Rattle.block.specs.Header.{header_number, owner_of, seconds_of}
use Rattle.block.specs.Book.{blocks_of}
use Rattle.report.specs.declared.Form.TheVariants.{Figures}
use Rattle.printed.specs.Printed.{Judged, judged, last_text, book_seconds}

-- a book after the closed ones c whose seconds give j: their rows, and the last line, where m is the number of what follows them, 0 where nothing is
-- wrong
abbrev pub book_text : Closed → Judged → ℕ → List ℕ
book_text c j m = j.text ++ last_text default_sheet (or_else j.number m) c j.past

-- ---- the second book

-- "with times moved back by the closed book's length": the seconds ss under the owner o, where h are those of the first book
abbrev pub judged_next : ℕ → ℕ → History → List (List ℕ) → Judged
judged_next o at h ss = judged default_sheet Figures (h ∷ []) [] (book_seconds o (map (bytes_back at) ss))

-- what follows the first book's sum line, by the number of its handover: "29 .., and no state is handed over"
abbrev pub next_by : ℕ → ℕ → ℕ → History → List (List ℕ) → ℕ → List ℕ
next_by zero o at h ss m = book_text (h ∷ []) (judged_next o at h ss) m
next_by (suc n) o at h ss m = last_text default_sheet (suc n) [] h

-- ---- both

-- j is what the seconds before the cut give, ss are those from it on: the book is handed over where there is one to be judged
abbrev pub cut_by : ℕ → ℕ → ℕ → Judged → List (List ℕ) → ℕ → List ℕ
cut_by zero o at j [] m = book_text [] j m
cut_by zero o at j (s ∷ ss) m =
    j.text ++ (last_text default_sheet 0 [] j.past ++ next_by (hand_over_number (length j.past)) o at j.past (s ∷ ss) m)
cut_by (suc n) o at j ss m = book_text [] j m

abbrev pub judged_first : ℕ → ℕ → List (List ℕ) → Judged
judged_first o at ss = judged default_sheet Figures [] [] (book_seconds o (take at ss))

-- the seconds ss of a book, cut after `at` of them
abbrev pub cut_text : ℕ → ℕ → List (List ℕ) → ℕ → List ℕ
cut_text o at ss m = cut_by (judged_first o at ss).number o at (judged_first o at ss) (drop at ss) m

-- ---- the whole

abbrev pub cut_printed_by : ℕ → ℕ → List ℕ → List ℕ → List ℕ
cut_printed_by zero at head s =
    cut_text (owner_of head) at (blocks_of (seconds_of head) s).seconds (blocks_of (seconds_of head) s).number
cut_printed_by (suc n) at head s = last_text default_sheet (suc n) [] []

-- the bytes before the book
abbrev pub count_size : ℕ
count_size = 4

abbrev pub cut_book_of : ℕ → List ℕ → List ℕ
cut_book_of at s = cut_printed_by (header_number (take block_size s)) at (take block_size s) (drop block_size s)

-- fewer than 4 bytes leave none for the header, which gives 12
unfoldable pub cut_printed : List ℕ → List ℕ
cut_printed s = cut_book_of (u32_at s 0) (drop count_size s)
