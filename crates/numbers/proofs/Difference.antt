-- Differences of natural numbers: with their sign, and times a factor. Assumes nothing.
use Rattle.std.proofs.Common.{◌≡◌, ◌∙◌, ℕ, ◌-◌, ◌*◌, ◌≤◌, mul_comm, arith, pos, neg_ℤ, ◌-ℤ◌}
use native.Mathlib.Nat.{mul-sub}
use Rattle.numbers.proofs.Parts.{shows, sub_nat, neg_nat}

pub less_up : (a b : ℕ) → b ≤ a → pos a -ℤ pos b ≡ pos (a - b)
less_up a b h = omega (arith, shows, sub_nat (pos a) (pos b))

pub less_down : (a b : ℕ) → a ≤ b → pos a -ℤ pos b ≡ neg_ℤ (pos (b - a))
less_down a b h = omega (arith, shows, sub_nat (pos a) (pos b), neg_nat (pos (b - a)))

pub sub_mul : (a b u : ℕ) → (a - b) * u ≡ a * u - b * u
sub_mul a b u = mul_comm (a - b) u ∙ mul-sub u a b ∙ (λ i. mul_comm u a i - mul_comm u b i)
