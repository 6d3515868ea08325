-- How long a number's text is, by its type's range: what the library knows of what it prints. Assumes nothing.
use Rattle.std.proofs.Common.{ℕ, ◌^◌, ◌≤◌, ◌<◌, length, ℤ, SFits, w32, w64, arith}
use Rattle.std.proofs.lemmas.Fmt.{length-decimal-le, length_signed_le}
use Rattle.std.specs.Int.Signed.{nat_abs-le}
use Rattle.line.specs.Widths.{count_width, field_width, unsigned_width, sum_width}
use Rattle.line.specs.Text.{digits, decimal, field, unsigned}
use Rattle.line.proofs.Printed.{printed_is, signed_is}

pub count_most : (n : ℕ) → n < 2 ^ 32 → length (digits n) ≤ count_width
count_most n h = rw (← printed_is n (omega arith)) (length-decimal-le 10 n (omega arith) (omega arith) (omega arith))

pub amount_most : (n : ℕ) → n < 2 ^ 64 → length (digits n) ≤ sum_width
amount_most n h = rw (← printed_is n h) (length-decimal-le 20 n (omega arith) (omega arith) h)

pub decimal_32 : (z : ℤ) → SFits w32 z → length (decimal z) ≤ 11
decimal_32 z f =
    let m = f.sfits in
    rw (← signed_is z (omega (arith, nat_abs-le z f.sfits))) (length_signed_le 10 z (omega arith) (omega arith))

pub decimal_64 : (z : ℤ) → SFits w64 z → length (decimal z) ≤ sum_width
decimal_64 z f =
    let m = f.sfits in
    rw (← signed_is z (omega (arith, nat_abs-le z f.sfits))) (length_signed_le 19 z (omega arith) (omega arith))

pub field_most : (z : ℤ) → SFits w32 z → length (field z) ≤ field_width
unfolding field
field_most z f = let d = decimal_32 z f in omega arith

pub unsigned_most : (n : ℕ) → n < 2 ^ 32 → length (unsigned n) ≤ unsigned_width
unfolding unsigned
unsigned_most n h = let d = count_most n h in omega arith
