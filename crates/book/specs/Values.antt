-- Values at the edges of a book second's rules, and of who is named and who sells what, so that a fault in definition and code alike is
-- refused. The proof is `values` of proofs/Values.antt.
use Rattle.std.specs.Prelude.{◌≡◌, List, [], ◌∷◌, map, ℕ, ℤ, pos, replicate, set}
use Rattle.power.specs.Units.{kw}
use Rattle.row.specs.declared.KindRow.{KindRow}
use Rattle.row.specs.declared.Row.{Row}
use Rattle.row.specs.declared.sums.Sums.{Sums}
use Rattle.row.specs.Row.{off_rounding, off_row}
use Rattle.book.specs.declared.Plant.TheVariants.{U, A, B}
use Rattle.book.specs.Answers.{BookAnswer, RefusedBy}
use Rattle.book.specs.Seconds.{BookSecond, unit_bytes, a_bytes, b_bytes}
use Rattle.book.specs.Refusals.{form_number}
use Rattle.book.specs.HandOver.{hand_over_number}
use Rattle.book.specs.Rows.{Said, refused, refused_by, values_of, sold_by_a, sold_by_b, answer_by, said_by}
use Rattle.book.specs.Sums.{kw_seconds}
use Rattle.book.specs.State.{sums_with}

-- n bytes 0, with an owner byte
abbrev pub zeros : ℕ → ℕ → BookSecond
zeros o n = record { owner = o; bytes = replicate n 0 }

-- 108 bytes: 1 at the first of U's, 2 at the first of A's, 3 at the first of B's
abbrev pub marked : List ℕ
marked = set (set (set (replicate 108 0) 0 1) 36 2) 72 3

abbrev first36 : ℕ → List ℕ
first36 n = set (replicate 36 0) 0 n

-- a row by its actual values and open
abbrev kind_of : ℤ → KindRow
kind_of v = record { setpoint = kw (pos 0); band = off_row.band; share = kw (pos 0); actual = kw v; rounding = off_rounding }

abbrev pub row_of : ℤ → ℤ → ℤ → ℤ → Row
row_of f a m o = record { fcr = kind_of f; afrr = kind_of a; mfrr = kind_of m; «open» = kw o; error = kw (pos 0); total = 0 }

abbrev none : Row
none = row_of (pos 0) (pos 0) (pos 0) (pos 0)

-- four sums
abbrev pub sums : ℕ → ℕ → ℕ → ℕ → Sums
sums a b o d = record { a = kw_seconds (pos a); b = kw_seconds (pos b); «open» = kw_seconds (pos o); due = kw_seconds (pos d) }

-- with a second more, whose due is 5: U's values are 1000, 2000 and 3000, A's 10, 20 and 30, B's 100, 200 and 300; their opens 1, 2 and 4
abbrev pub with_second : Sums → Sums
with_second q =
    sums_with q
    (row_of (pos 1000) (pos 2000) (pos 3000) (pos 1))
    (row_of (pos 10) (pos 20) (pos 30) (pos 2))
    (row_of (pos 100) (pos 200) (pos 300) (pos 4))
    (pos 5)

-- the answer and what is said, where the numbers of U, A and B are these
abbrev pub answered : ℕ → ℕ → ℕ → BookAnswer
answered u a b = answer_by 0 u a b none none none

abbrev pub said_of : ℕ → ℕ → ℕ → Said
said_of u a b = said_by 0 u a b []

pub record Values : Type 0 where
  pub twelve : map (λ (n : ℕ). form_number (zeros 7 n)) (107 ∷ 108 ∷ 109 ∷ []) ≡ 12 ∷ 0 ∷ 12 ∷ []
  pub sixteen : form_number (zeros 8 108) ≡ 16
  pub twelve_first : form_number (zeros 8 107) ≡ 12
  -- 29: 0 seconds are a multiple of 900
  pub twenty_nine : map hand_over_number (0 ∷ 899 ∷ 900 ∷ 901 ∷ 1800 ∷ []) ≡ 0 ∷ 29 ∷ 0 ∷ 29 ∷ 0 ∷ []
  -- U, A, B in that order, and the plant that is named
  pub names_unit : answered 4 5 6 ≡ RefusedBy U 4
  pub names_a : answered 0 5 6 ≡ RefusedBy A 5
  pub names_b : answered 0 0 6 ≡ RefusedBy B 6
  pub says_unit : said_of 4 5 6 ≡ refused_by U 4
  pub says_a : said_of 0 5 6 ≡ refused_by A 5
  pub says_b : said_of 0 0 6 ≡ refused_by B 6
  pub says_form : said_by 16 4 5 6 [] ≡ refused 16
  -- whose bytes stand where
  pub unit_part : unit_bytes marked ≡ first36 1
  pub a_part : a_bytes marked ≡ first36 2
  pub b_part : b_bytes marked ≡ first36 3
  -- owner 2: B sells aFRR, A the others; 0 and 7: A and B sell all
  pub sold_by_a_lem : map (λ (o : ℕ). values_of (sold_by_a o) (row_of (pos 1) (pos 10) (pos 100) (pos 1000))) (0 ∷ 1 ∷ 2 ∷ 4 ∷ 7 ∷ []) ≡ map (λ (n : ℕ). pos n) (111 ∷ 110 ∷ 101 ∷ 11 ∷ 0 ∷ [])
  pub sold_by_b_lem : map (λ (o : ℕ). values_of (sold_by_b o) (row_of (pos 1) (pos 10) (pos 100) (pos 1000))) (0 ∷ 1 ∷ 2 ∷ 4 ∷ 7 ∷ []) ≡ map (λ (n : ℕ). pos n) (0 ∷ 1 ∷ 10 ∷ 100 ∷ 111 ∷ [])
  -- A's values go to a, B's to b, the open of all three to open; U's values to none
  pub summed : with_second (sums 10000 20000 30000 40000) ≡ sums 10060 20600 30007 40005
