-- Plant by plant.
use Rattle.book.proofs.Plants.{unit_refused, range, unit_sized, asked, a_refused, b_refused, may_sum, all_rows}
use Rattle.book.proofs.Book.plants.Goals as goal

pub returns-in_default : goal.returns-in_default
returns-in_default c = rw c.refuses.ensures (unit_refused _ _ _ _ _ c.requires (rw c.unwrap_err.ensures at c.second-unit_answer.ensures))

pub added-requires : goal.added-requires
added-requires c = (range c.in-Ok.ensures, unit_sized c.in-Ok.ensures)

pub returns-in_default-a_answer : goal.returns-in_default-a_answer
returns-in_default-a_answer c =
    rw c.refuses-in_default-a_answer.ensures
    (a_refused _ _ _ _ _ c.requires c.in-Ok.ensures (asked c.added.ensures.0 (rw c.unwrap_err-in_default-a_answer.ensures at c.second_with-a_answer.ensures)))

pub returns-in_default-b_answer : goal.returns-in_default-b_answer
returns-in_default-b_answer c =
    rw c.refuses-in_default-b_answer.ensures
    (b_refused _ _ _ _ _ c.requires c.in-Ok.ensures (asked c.added.ensures.0 c.in-Ok-a_answer.ensures)
    (asked c.added.ensures.1 (rw c.unwrap_err-in_default-b_answer.ensures at c.second_with-b_answer.ensures)))

pub with_second-next-requires : goal.with_second-next-requires
with_second-next-requires c =
    may_sum c.args.self.now c.args.owner _ _ _ c.requires c.in-Ok.ensures (asked c.added.ensures.0 c.in-Ok-a_answer.ensures)
    (asked c.added.ensures.1 c.in-Ok-b_answer.ensures) c.due_in.ensures

pub returns : goal.returns
returns c =
    all_rows c.args.self.now c.args.owner _ _ _ c.requires c.in-Ok.ensures (asked c.added.ensures.0 c.in-Ok-a_answer.ensures)
    (asked c.added.ensures.1 c.in-Ok-b_answer.ensures) c.due_in.ensures c.with_second-next.ensures
