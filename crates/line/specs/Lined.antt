-- What a line writer answers and leaves (01, "When a book is turned down").
use Rattle.std.specs.Prelude.{◌≡◌, ℕ, ◌≤◌, cond, List, ◌++◌, length, drop, ltb, Result, Ok, Err}
use Rattle.refusals.specs.declared.Refusal.{Refusal}
use Rattle.refusals.specs.Refusals.{Answer, Given, Refused, told}

-- "22 buffer under 200 bytes, untouched. Otherwise it answers the line's length, and bytes past the line stay."
-- `least` is 200 there, and b holds the buffer's bytes before. Each case of the answer with its number or its value:
abbrev pub answer_of : ℕ → List ℕ → List ℕ → Answer ℕ
answer_of least b text = cond (ltb (length b) least) (Refused 22) (Given (length text))

abbrev pub buffer_of : ℕ → List ℕ → List ℕ → List ℕ
buffer_of least b text = cond (ltb (length b) least) b (text ++ drop (length text) b)

-- the length that a result gives, 0 for a refusal
abbrev pub length_in : Result ℕ Refusal → ℕ
length_in (Ok n) = n
length_in (Err e) = 0

-- b and e are the buffer's bytes before and after, and r the result
pub record Lined (least : ℕ) (b e : List ℕ) (r : Result ℕ Refusal) (text : List ℕ) : Type 0 where
  pub answer : told r ≡ answer_of least b text
  pub buffer : e ≡ buffer_of least b text
  pub most : length_in r ≤ least
  pub within : length_in r ≤ length b
