-- "Check, bytes 508-511: 1 plus the sum over bytes i = 0 to 507 of (i + 1) × byte" (01, "Blocks and text").
use Rattle.std.specs.Prelude.{ℕ, ◌+◌, ◌*◌, List, [], ◌∷◌}
use Rattle.block.specs.Places.{check_at}
use Rattle.block.specs.Bytes.{part}

-- the sum over the bytes of s, the first being byte i
unfoldable pub weights : ℕ → List ℕ → ℕ
weights i [] = 0
weights i (b ∷ s) = (i + 1) * b + weights (i + 1) s

unfoldable pub check_of : List ℕ → ℕ
check_of s = 1 + weights 0 (part s 0 check_at)
