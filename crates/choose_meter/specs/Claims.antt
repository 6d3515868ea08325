-- What is claimed of the program's text. The proof is `claims` of proofs/Claims.antt.
use Rattle.std.specs.Prelude.{ℕ, ◌≡◌, List, [], ◌∷◌, ◌++◌}
use Rattle.choose_meter.specs.Printed.{printed, told}

abbrev pub joined : List (List ℕ) → List ℕ
joined [] = []
joined (p ∷ ps) = p ++ joined ps

pub record Claims : Type 0 where
  -- however the input is cut, the texts one after the other are `printed` of the whole
  pub any_cut : (ps : List (List ℕ)) → told [] ps ≡ printed (joined ps)
