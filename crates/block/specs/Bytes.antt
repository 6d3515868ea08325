-- Parts of a block's bytes.
use Rattle.std.specs.Prelude.{ℕ, ◌-◌, Bool, true, ◌&&◌, List, [], ◌∷◌, take, drop, replicate, eqb}

-- bytes from to end - 1
abbrev pub part : List ℕ → ℕ → ℕ → List ℕ
part s from end = take (end - from) (drop from s)

unfoldable pub all_zero : List ℕ → Bool
all_zero [] = true
all_zero (b ∷ s) = eqb b 0 && all_zero s

abbrev pub zeros : ℕ → List ℕ
zeros n = replicate n 0
