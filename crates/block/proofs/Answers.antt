-- What an answer says of its number. Assumes nothing.
use Rattle.std.proofs.Common.{◌≡◌, refl, ap, false, not, List, ℕ, zero, suc, eqb, eqb-true, eq-eqb}
use Rattle.std.proofs.lemmas.Bool.{not-false}
use Rattle.numbers.specs.Rules.{differ}
use Rattle.block.specs.Said.{values, answered}

-- an answer with values has no number
pub accepted : (n : ℕ) (vs ws : List ℕ) → answered n vs ≡ values ws → (n ≡ 0) × (vs ≡ ws)
accepted zero vs ws e = (refl, cc)
accepted (suc n) vs ws e = (cc, cc)

pub same : (a b : ℕ) → differ a b ≡ false → a ≡ b
same a b e = eqb-true a b (not-false (eqb a b) e)

pub agree : {a b : ℕ} → a ≡ b → differ a b ≡ false
agree {a} {b} e = ap not (eq-eqb a b e)
