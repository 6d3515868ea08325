-- The state is one that the plant second takes.
use Rattle.plant.specs.State.{Ready}
use Rattle.check_operations.proofs.after_blank.Given as goal

abbrev pub invariant-loop : goal.invariant-loop
invariant-loop l = Ready l.sheet.figures l.state
