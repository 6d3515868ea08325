-- What a cut book's blocks add to the text, one after the other, is what is printed of it. The proof is `claims` of proofs/Claims.antt.
use Rattle.std.specs.Prelude.{◌≡◌, List, ℕ}
use Rattle.cut.specs.Cut.{cut_printed}
use Rattle.cut.specs.Running.{told}

pub record Claims : Type 0 where
  -- for every input
  pub any_input : (s : List ℕ) → told s ≡ cut_printed s
