-- The refusal number that each operation gives, 0 where nothing is refused, as the program asks it.
use Rattle.std.specs.Prelude.{◌≡◌, ℕ, ◌+◌, List, pos, replicate, set}
use Rattle.refusals.specs.Refusals.{answer_number}
use Rattle.sheet.specs.declared.Sheet.{Sheet}
use Rattle.row.specs.declared.sums.Sums.{Sums}
use Rattle.plant.specs.declared.PlantState.{PlantState}
use Rattle.plant.specs.State as plant
use Rattle.book.specs.Rows as book-rows
use Rattle.book.specs.State as book
use Rattle.block.specs.Places.{block_size, check_at, per_block}
use Rattle.block.specs.Said.{Said, values, refused}
use Rattle.block.specs.Block.{block_of}
use Rattle.block.specs.Writing.{Outcome}
use Rattle.line.specs.Widths.{line_room}
use Rattle.line.specs.Line.{sum_text}
use Rattle.line.specs.Lined.{answer_of}

-- the plant second of bytes s
abbrev pub plant_number : Sheet → PlantState → List ℕ → ℕ
plant_number sh st s = answer_number (plant.step_in sh st s (pos 0) (pos 0)).answer

-- the book second of bytes s at a fresh book
abbrev pub book_number : Sheet → ℕ → List ℕ → ℕ
book_number sh owner s = book-rows.number_in (book.step_in (book.fresh sh) (book.second_of owner s)).answer

-- the sum line into a buffer that holds b
abbrev pub line_number : List ℕ → Sums → ℕ
line_number b s = answer_number (answer_of line_room b (sum_text s))

abbrev pub said_number : Said → ℕ
said_number (values vs) = 0
said_number (refused n) = n

-- a writer's answer with the number n, and the buffer b after it, are those of o
pub record Wrote (n : ℕ) (b : List ℕ) (o : Outcome) : Type 0 where
  pub number : n ≡ said_number o.said
  pub buffer : b ≡ o.buffer

-- that many bytes 0
abbrev pub blank : ℕ → List ℕ
blank n = replicate n 0

-- block n with no second in it: all bytes 0 but the first of its number and of its check
abbrev pub blank_block : ℕ → List ℕ
blank_block n = set (set (blank block_size) 0 n) check_at (1 + n)

-- that block as number n of a book with one block
abbrev pub blank_number : ℕ → ℕ
blank_number n = said_number (block_of (blank_block n) per_block n)
