-- "Others: 0-3 block number from 1, 4 seconds in it (4, fewer only in the last), from 16 on 108 bytes a second: U, A, B. All else is 0."
-- (01, "Blocks and text")
use Rattle.std.specs.Prelude.{◌≡◌, ℕ, zero, suc, ◌*◌, ◌-◌, min, not, List, [], ◌∷◌, length, get_or, take, drop, eqb, Result, Ok, Err}
use Rattle.std.specs.Borrow.{Bor}
use Rattle.refusals.specs.declared.Refusal.{Refusal}
use Rattle.refusals.specs.Refusals.{number_of}
use Rattle.codec.specs.Little.{u32_at}
use Rattle.block.specs.Places.{block_size, check_at, number_at, count_at, count_end, per_block, body_at, second_size, second_at}
use Rattle.block.specs.Bytes.{part, all_zero}
use Rattle.block.specs.Check.{check_of}
use Rattle.numbers.specs.Rules.{Rule, refuse, first, differ}
use Rattle.block.specs.Said.{Said, values, refused, answered}

abbrev pub count_of : List ℕ → ℕ
count_of s = get_or s count_at 0

-- "Due in it are the smaller of 4 and seconds - 4 × (n - 1)": 0 where that is below 0
abbrev pub due_in : ℕ → ℕ → ℕ
due_in seconds n = min per_block (seconds - per_block * (n - 1))

-- "12, 13, then 19 number not n, or n is 0, or none due; 20 seconds in it not those due; 18, unused seconds included"
abbrev pub block_rules : List ℕ → ℕ → ℕ → List Rule
block_rules s seconds n =
    refuse 12 (differ (length s) block_size)
    ∷ refuse 13 (differ (u32_at s check_at) (check_of s))
    ∷ refuse 19 (differ (u32_at s number_at) n)
    ∷ refuse 19 (eqb n 0)
    ∷ refuse 19 (eqb (due_in seconds n) 0)
    ∷ refuse 20 (differ (count_of s) (due_in seconds n))
    ∷ refuse 18 (not (all_zero (part s count_end body_at)))
    ∷ refuse 18 (not (all_zero (part s (second_at (due_in seconds n)) check_at)))
    ∷ []

unfoldable pub block_number : List ℕ → ℕ → ℕ → ℕ
block_number s seconds n = first (block_rules s seconds n)

-- what the reader says of the bytes s: the seconds in the block where no rule applies
abbrev pub block_of : List ℕ → ℕ → ℕ → Said
block_of s seconds n = answered (block_number s seconds n) (count_of s ∷ [])

-- what each case of its answer says
abbrev pub block_says : Result ℕ Refusal → Said
block_says (Ok k) = values (k ∷ [])
block_says (Err e) = refused (number_of e)

-- the bytes of second i of a block: U, A, B
abbrev pub second_of : List ℕ → ℕ → List ℕ
second_of s i = take second_size (drop (second_at i) s)

-- the bytes of n seconds of a block, from second i on
unfoldable pub seconds_from : List ℕ → ℕ → ℕ → List (List ℕ)
seconds_from s i zero = []
seconds_from s i (suc n) = second_of s i ∷ seconds_from s (suc i) n

-- what `second` answers
pub record SecondIn (s : List ℕ) (i : ℕ) (r : List ℕ) : Type 0 where
  pub bytes : r ≡ second_of s i
  pub whole : length r ≡ second_size

-- how many seconds a block has, where they are answered
abbrev pub count_told : Result (Bor (List (List ℕ))) Refusal → Result ℕ Refusal
count_told (Ok seconds) = Ok (length seconds.now)
count_told (Err e) = Err e
