-- The numbers that the program prints, by the definitions that its functions answer by (01, "When a book is turned down"). The proof is
-- `answers` of proofs/Answers.antt.
use Rattle.std.specs.Prelude.{◌≡◌}
use Rattle.sheet.specs.declared.Sheet.{Sheet}
use Rattle.row.specs.declared.sums.Sums.{Sums}
use Rattle.record.specs.Record.{size, book_size, most_seconds}
use Rattle.plant.specs.declared.PlantState.{PlantState}
use Rattle.check_operations.specs.Numbers.{plant_number, book_number, line_number, blank, blank_number}

pub record Answers : Type 0 where
  -- "1 already 90,000 seconds", whatever else the state holds
  pub plant_second_90001 : (sh : Sheet) (st : PlantState) → st.seconds ≡ most_seconds → plant_number sh st (blank size) ≡ 1
  pub book_second_owner_8 : (sh : Sheet) → book_number sh 8 (blank book_size) ≡ 16
  pub line_buffer_199 : (s : Sums) → line_number (blank 199) s ≡ 22
  pub block_number_0 : blank_number 0 ≡ 19
  pub block_none_due : blank_number 5 ≡ 19
  pub plant_second_35_bytes : (sh : Sheet) (st : PlantState) → plant_number sh st (blank 35) ≡ 12
  pub book_second_107_bytes : (sh : Sheet) → book_number sh 0 (blank 107) ≡ 12
