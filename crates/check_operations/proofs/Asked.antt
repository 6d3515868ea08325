-- What a writer answers, by its number. Assumes nothing.
use Rattle.std.proofs.Common.{◌≡◌, refl, ap, ◌∙◌, List, ℕ, Result, Ok, Err}
use Rattle.refusals.specs.declared.Refusal.{Refusal}
use Rattle.refusals.specs.Refusals.{number_in}
use Rattle.block.specs.Writing.{Outcome, written_says}
use Rattle.check_operations.specs.Numbers.{said_number, Wrote}

number_said : (r : Result (Unit {0}) Refusal) → number_in r ≡ said_number (written_says r)
number_said (Ok x) = refl
number_said (Err e) = refl

pub wrote : (r : Result (Unit {0}) Refusal) (b : List ℕ) (o : Outcome) → ◌≡◌ {A = Outcome} (record { said = written_says r; buffer = b }) o → Wrote (number_in r) b o
wrote r b o e =
    record {
      number = number_said r ∙ ap (λ (x : Outcome). said_number x.said) e;
      buffer = ap (λ (x : Outcome). x.buffer) e;
    }
