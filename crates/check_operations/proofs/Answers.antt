-- The program's numbers, computed by the definitions. Assumes nothing.
use Rattle.std.proofs.Common.{ℕ, ◌≡◌, refl, ap, pos}
use Rattle.refusals.specs.Refusals.{answer_number}
use Rattle.sheet.specs.declared.Sheet.{Sheet}
use Rattle.record.specs.declared.Record.{Record}
use Rattle.record.specs.Record.{size, most_seconds, record_of, reading_of}
use Rattle.plant.specs.declared.PlantState.{PlantState}
use Rattle.plant.specs.Refusals.{record_number}
use Rattle.plant.specs.State.{step_by, call_step_in, record_step_in, step_in}
use Rattle.book.specs.Refusals.{form_number}
use Rattle.book.specs.State as book
use Rattle.block.specs.Block.{block_number}
use Rattle.block.specs.Check.{weights, check_of}
use Rattle.check_operations.specs.Numbers.{plant_number, blank}
use Rattle.check_operations.specs.Answers.{Answers}

abbrev blank_record : Record
blank_record = record_of (blank size)

full : (sh : Sheet) (st : PlantState) → st.seconds ≡ most_seconds → plant_number sh st (blank size) ≡ 1
unfolding step_in reading_of record_step_in record_number
full sh st e = ap (λ (n : ℕ). answer_number (step_by (record_number n st.last_status blank_record) st (call_step_in sh st blank_record (pos 0) (pos 0))).answer) e

pub answers : Answers
unfolding step_in reading_of book.step_in form_number block_number weights check_of
answers =
    record {
      plant_second_90001 = full;
      book_second_owner_8 = λ sh. refl;
      line_buffer_199 = λ s. refl;
      block_number_0 = refl;
      block_none_due = refl;
      plant_second_35_bytes = λ sh st. refl;
      book_second_107_bytes = λ sh. refl;
    }
