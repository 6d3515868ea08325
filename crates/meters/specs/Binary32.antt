-- The exact value of a binary32 number, from its 32 bits read as a whole number (IEEE 754): bit 31 is the sign, bits 23 to 30 are the exponent's
-- field and the lower 23 the digits. And the nearest whole mHz to it (02, W6).
use Rattle.std.specs.Prelude.{ℕ, zero, suc, ◌+◌, ◌*◌, ◌/◌, ◌%◌, ◌^◌, Bool, true, false, not, cond, leb, ltb, eqb, ℤ, pos, negsuc, neg_ℤ, Float}
use Rattle.std.specs.Float.{binary32}
use Rattle.std.specs.Float.Ieee.{to_bits}

-- the bits of an f32; `lib.Ieee` writes a NaN as one pattern with a field of all ones, and only that it isn't finite counts here
abbrev pub bits_of : Float → ℕ
bits_of x = to_bits binary32 x

abbrev pub is_negative : ℕ → Bool
is_negative b = leb (2 ^ 31) b

abbrev pub field_of : ℕ → ℕ
field_of b = b % 2 ^ 31 / 2 ^ 23

abbrev pub digits_of : ℕ → ℕ
digits_of b = b % 2 ^ 23

-- an infinity and a NaN have a field of all ones
abbrev pub all_ones : ℕ
all_ones = 255

unfoldable pub finite_bits : ℕ → Bool
finite_bits b = not (eqb (field_of b) all_ones)

-- The size of a finite one, in steps of 2 ^ -149, the smallest binary32 above 0. A field x above 0 adds the leading digit, and the number counts
-- 2 ^ (x - 1) steps for each; a field of 0 has no leading digit. So every finite binary32 is a whole number of steps.
abbrev pub size_by : ℕ → ℕ → ℕ
size_by zero t = t
size_by (suc x) t = (2 ^ 23 + t) * 2 ^ x

unfoldable pub size_of : ℕ → ℕ
size_of b = size_by (field_of b) (digits_of b)

abbrev pub signed : Bool → ℕ → ℤ
signed true n = neg_ℤ (pos n)
signed false n = pos n

-- with its sign
unfoldable pub exact_bits : ℕ → ℤ
exact_bits b = signed (is_negative b) (size_of b)

-- ---- of an f32

abbrev pub finite : Float → Bool
finite x = finite_bits (bits_of x)

-- its exact value, in steps
abbrev pub exact : Float → ℤ
exact x = exact_bits (bits_of x)

-- n Hz in steps
abbrev pub hertz : ℕ → ℕ
hertz n = n * 2 ^ 149

-- ---- "The deviation becomes whole mHz, the nearest, ties to the even one, against the exact value of the binary32 number."

-- n / d to the nearest whole number: twice what the division leaves is below d, above it, or, at a tie, d itself
unfoldable pub nearest_whole : ℕ → ℕ → ℕ
nearest_whole n d =
    cond (ltb (n % d * 2) d) (n / d)
    (cond (ltb d (n % d * 2)) (n / d + 1)
    (n / d + n / d % 2))

-- a number of steps in whole mHz
unfoldable pub in_mhz : ℤ → ℤ
in_mhz (pos n) = pos (nearest_whole (n * 1000) (hertz 1))
in_mhz (negsuc n) = neg_ℤ (pos (nearest_whole (suc n * 1000) (hertz 1)))
