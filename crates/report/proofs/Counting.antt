-- The book counts a second that gives rows, and none is taken back. Assumes nothing.
use Rattle.std.proofs.Common.{◌≡◌, refl, ℕ, zero, suc, ◌+◌, ◌≤◌, arith, pos}
use Rattle.row.specs.declared.Row.{Row}
use Rattle.refusals.specs.Refusals as plant-answer
use Rattle.refusals.specs.Refusals.{Answer}
use Rattle.plant.proofs.Counted as plant
use Rattle.book.specs.declared.Book.{Book}
use Rattle.book.specs.Answers.{BookStep, Rows}
use Rattle.book.specs.declared.Plant.{Plant}
use Rattle.book.specs.declared.Plant.TheVariants.{U, A, B}
use Rattle.book.specs.Seconds.{BookSecond, unit_bytes}
use Rattle.book.specs.Refusals.{form_number}
use Rattle.book.specs.State.{unit_in, a_in, b_in, accepted_in, on_row, refused_by, plants_in, step_by, step_in}

pub record Counts (k : Book) (p : BookStep) : Type 0 where
  pub one_more : (u a b : Row) → p.answer ≡ Rows u a b → p.book.unit.seconds ≡ k.unit.seconds + 1
  pub least : k.unit.seconds ≤ p.book.unit.seconds

module _ (k : Book) (s : BookSecond) where
  refused : (p : Plant) (n : ℕ) → Counts k (refused_by k p n)
  refused p n = record { one_more = λ u a b e. let z : ◌≡◌ {A = ℕ} 0 1 = cc in absurd (omega arith); least = omega arith }

  taken : (u a b : Row) → (unit_in k s).answer ≡ plant-answer.Given u → Counts k (accepted_in k s u a b)
  unfolding unit_in
  taken u a b e =
      let c = plant.counted k.sheet k.unit (unit_bytes s.bytes) (pos 0) (pos 0) u e in
      record { one_more = λ x y z q. c; least = omega arith }

  at_b : (u a : Row) → (unit_in k s).answer ≡ plant-answer.Given u → (y : Answer Row) → Counts k (on_row y (λ b. accepted_in k s u a b) (refused_by k B))
  at_b u a e (plant-answer.Given b) = taken u a b e
  at_b u a e (plant-answer.Refused n) = refused B n

  at_a : (u : Row) → (unit_in k s).answer ≡ plant-answer.Given u → (y : Answer Row) → Counts k (on_row y (λ a. on_row (b_in k s u).answer (λ b. accepted_in k s u a b) (refused_by k B)) (refused_by k A))
  at_a u e (plant-answer.Given a) = at_b u a e (b_in k s u).answer
  at_a u e (plant-answer.Refused n) = refused A n

  at_unit : (y : Answer Row) → (unit_in k s).answer ≡ y → Counts k (on_row y (λ u. on_row (a_in k s u).answer (λ a. on_row (b_in k s u).answer (λ b. accepted_in k s u a b) (refused_by k B)) (refused_by k A)) (refused_by k U))
  at_unit (plant-answer.Given u) e = at_a u e (a_in k s u).answer
  at_unit (plant-answer.Refused n) e = refused U n

  by_form : (n : ℕ) → Counts k (step_by n k (plants_in k s))
  unfolding plants_in
  by_form zero = at_unit (unit_in k s).answer refl
  by_form (suc n) = record { one_more = λ u a b e. let z : ◌≡◌ {A = ℕ} 0 1 = cc in absurd (omega arith); least = omega arith }

  pub counts : Counts k (step_in k s)
  unfolding step_in
  counts = by_form (form_number s)
