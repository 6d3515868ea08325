-- A test at each number below n, which antt computes. Assumes nothing.
use Rattle.std.proofs.Common.{◌≡◌, refl, Bool, true, false, ◌&&◌, ℕ, zero, suc, ◌<◌, arith, leb, leb-true, leb-false}
use Rattle.numbers.proofs.Rules.{both_true}

abbrev pub every : ℕ → (ℕ → Bool) → Bool
every zero t = true
every (suc n) t = every n t && t n

pub each : (n : ℕ) (t : ℕ → Bool) → every n t ≡ true → (k : ℕ) → k < n → t k ≡ true
each zero t e k h = absurd (omega arith)
each (suc n) t e k h = go (leb (suc k) n) refl (λ p. each n t (both_true (every n t) (t n) e).0 k p)
  where
    go : (u : Bool) → leb (suc k) n ≡ u → (k < n → t k ≡ true) → t k ≡ true
    go true f i = i (leb-true (suc k) n f)
    go false f i =
        let same : k ≡ n = omega (arith, leb-false (suc k) n f) in
        rw same (both_true (every n t) (t n) e).1
