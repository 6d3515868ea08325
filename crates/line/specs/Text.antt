-- Text as a list of ASCII codes: literals, and numbers in decimal.
use Rattle.std.specs.Prelude.{ℕ, zero, suc, ◌+◌, ◌/◌, ◌%◌, cond, List, [], ◌∷◌, ◌++◌, ltb, ℤ, pos, negsuc, nat_abs}
use Prim.Native.Char.{code}
use Prim.Native.String.{String, [] as «no_text», ◌∷◌ as ◌then◌}

abbrev pub ascii : String → List ℕ
ascii «no_text» = []
ascii (c then s) = code c ∷ ascii s

-- the code of a digit below 10
abbrev pub digit : ℕ → ℕ
digit d = code "0" + d

-- the digits of n, with at most `turns` of them
unfoldable pub digits_in : ℕ → ℕ → List ℕ
digits_in zero n = []
digits_in (suc turns) n = cond (ltb n 10) (digit n ∷ []) (digits_in turns (n / 10) ++ (digit (n % 10) ∷ []))

-- the digits of n, the most significant first: n has no more than n + 1 of them
unfoldable pub digits : ℕ → List ℕ
digits n = digits_in (suc n) n

-- a minus sign where z is below 0
abbrev pub sign : ℤ → List ℕ
sign (pos n) = []
sign (negsuc n) = ascii "-"

unfoldable pub decimal : ℤ → List ℕ
decimal z = sign z ++ digits (nat_abs z)

-- how a plant's line begins: its second and its letter
abbrev pub start_text : ℕ → ℕ → List ℕ
start_text t letter = digits t ++ (ascii " " ++ (letter ∷ []))

-- a number with the space that stands before it
unfoldable pub field : ℤ → List ℕ
field z = ascii " " ++ decimal z

-- a number that has no sign, with the space that stands before it
unfoldable pub unsigned : ℕ → List ℕ
unsigned n = ascii " " ++ digits n

-- a name, which ends in a space, and a number
unfoldable pub named : List ℕ → ℤ → List ℕ
named name z = name ++ decimal z
