-- Four bytes and their number, in both directions. Assumes nothing.
use Rattle.std.proofs.Common.{◌≡◌, ap, ◌∙◌, [], ◌∷◌, ℕ, ◌+◌, ◌*◌, ◌/◌, ◌%◌, ◌<◌, ◌^◌, to_z, w16, w32, arith}
use Rattle.std.proofs.lemmas.Int.{ints}
use Rattle.std.proofs.lemmas.Bool.Decides.{nat_tests}
use Rattle.codec.specs.Little.{u32_at, le4, twos_complement}

pub le4_value : (n : ℕ) → u32_at (le4 n) 0 ≡ n
le4_value n = omega arith

low : (x y : ℕ) → x < 256 → x ≡ (x + y * 256) % 256
low x y h = omega arith

pub four_bytes : (a b c d : ℕ) → a < 256 → b < 256 → c < 256 → a ∷ b ∷ c ∷ d ∷ [] ≡ le4 (a + b * 256 + c * 65536 + d * 16777216)
four_bytes a b c d h k l =
    let n = a + b * 256 + c * 65536 + d * 16777216 in
    let p : a ≡ n % 256 = omega arith in
    let u : b + (c + d * 256) * 256 ≡ n / 256 = omega arith in
    let v : c + d * 256 ≡ n / 65536 = omega arith in
    let q : b ≡ n / 256 % 256 = low b (c + d * 256) k ∙ ap (λ (m : ℕ). m % 256) u in
    let r : c ≡ n / 65536 % 256 = low c d l ∙ ap (λ (m : ℕ). m % 256) v in
    let t : d ≡ n / 16777216 = omega arith in
    cc

-- the bits of n read as a signed number
pub signed_16 : (n : ℕ) → n < 2 ^ 16 → to_z w16 n ≡ twos_complement 32768 n
unfolding twos_complement
signed_16 n h = grind (arith, ints, nat_tests)

pub signed_32 : (n : ℕ) → n < 2 ^ 32 → to_z w32 n ≡ twos_complement 2147483648 n
unfolding twos_complement
signed_32 n h = grind (arith, ints, nat_tests)
