-- 1,500 of the sheet's grains make one of document 01's: what is worked out in them is 1,500 times as much, and rounds to the same kW. Assumes nothing.
use Rattle.std.proofs.Common.{◌≡◌, ap, sym, ◌∙◌, mul_comm, ℕ, ◌*◌, ◌/◌, arith, lit<, ℤ, pos, neg_ℤ, ◌+ℤ◌, ◌-ℤ◌, ◌*ℤ◌}
use Rattle.std.specs.Int.Signed.{quot_z}
use Rattle.numbers.specs.Order.{max_z, min_z}
use Rattle.numbers.proofs.Order.{max_nat, min_nat}
use Rattle.numbers.proofs.Parts.{shows, add_nat, sub_nat, mul_nat, quot_nat, floor_nat}
use Rattle.power.specs.declared.limits.Limits.{Limits}
use Rattle.power.specs.Units.{kw, in_grains, percent_of}
use Rattle.power.specs.Inward.{upper_kw, lower_kw, published_of}
use Rattle.power.proofs.Inside.{neg_grains}
use Rattle.fcr.proofs.Weighing.{times}
use Rattle.first_sheet.specs.Grains.{first, five_percent, times12}
use Rattle.first_sheet.specs.Claims.{finer, in_finer}

-- the sheet's grains of a kW
abbrev pub now : ℕ
now = finer * first

-- ---- what is worked out

module _ (a b : ℤ) where
  pub add_finer : a *ℤ pos finer +ℤ b *ℤ pos finer ≡ (a +ℤ b) *ℤ pos finer
  add_finer = omega (arith, shows, add_nat (a *ℤ pos finer) (b *ℤ pos finer), mul_nat a finer, mul_nat b finer, mul_nat (a +ℤ b) finer, add_nat a b)

  pub sub_finer : a *ℤ pos finer -ℤ b *ℤ pos finer ≡ (a -ℤ b) *ℤ pos finer
  sub_finer = omega (arith, shows, sub_nat (a *ℤ pos finer) (b *ℤ pos finer), mul_nat a finer, mul_nat b finer, mul_nat (a -ℤ b) finer, sub_nat a b)

  pub max_finer : max_z (a *ℤ pos finer) (b *ℤ pos finer) ≡ max_z a b *ℤ pos finer
  max_finer = omega (arith, shows, max_nat (a *ℤ pos finer) (b *ℤ pos finer), mul_nat a finer, mul_nat b finer, mul_nat (max_z a b) finer, max_nat a b)

  pub min_finer : min_z (a *ℤ pos finer) (b *ℤ pos finer) ≡ min_z a b *ℤ pos finer
  min_finer = omega (arith, shows, min_nat (a *ℤ pos finer) (b *ℤ pos finer), mul_nat a finer, mul_nat b finer, mul_nat (min_z a b) finer, min_nat a b)

-- a power in kW
pub grains_finer : (k : ℤ) → in_grains now k ≡ in_grains first k *ℤ pos finer
grains_finer k = omega (arith, shows, mul_nat k now, mul_nat k first, mul_nat (in_grains first k) finer)

-- "5 %" and "1.2 ×" of one
pub five_finer : (k : ℤ) → percent_of now 5 k ≡ five_percent k *ℤ pos finer
five_finer k = omega (arith, shows, mul_nat k (now * 5 / 100), mul_nat k 27, mul_nat (five_percent k) finer)

pub times12_finer : (k : ℤ) → percent_of now 120 k ≡ times12 k *ℤ pos finer
times12_finer k = omega (arith, shows, mul_nat k (now * 120 / 100), mul_nat k 648, mul_nat (times12 k) finer)

-- neither division leaves anything
pub over_30 : (k : ℤ) → quot_z (in_grains now k) (pos 30) ≡ quot_z (in_grains first k) (pos 30) *ℤ pos finer
over_30 k =
    omega (arith, shows, quot_nat (in_grains now k) 30, mul_nat k now, mul_nat (quot_z (in_grains first k) (pos 30)) finer, quot_nat (in_grains first k) 30, mul_nat k first)

pub over_270 : (k : ℤ) → quot_z (in_grains now k) (pos 270) ≡ quot_z (in_grains first k) (pos 270) *ℤ pos finer
over_270 k =
    omega (arith, shows, quot_nat (in_grains now k) 270, mul_nat k now, mul_nat (quot_z (in_grains first k) (pos 270)) finer, quot_nat (in_grains first k) 270, mul_nat k first)

-- a factor before the grains of a kW, or after them
pub swap : (d : ℤ) (m n : ℕ) → d *ℤ pos m *ℤ pos n ≡ d *ℤ pos n *ℤ pos m
swap d m n = times d m n ∙ ap (λ (k : ℕ). d *ℤ pos k) (mul_comm m n) ∙ sym (times d n m)

-- ---- what is published

upper_same : (g : ℤ) → upper_kw now (g *ℤ pos finer) ≡ upper_kw first g
unfolding upper_kw
upper_same g = omega (arith, shows, floor_nat (g *ℤ pos finer) now (lit< tt), mul_nat g finer, floor_nat g first (lit< tt))

lower_same : (g : ℤ) → lower_kw now (g *ℤ pos finer) ≡ lower_kw first g
unfolding lower_kw
lower_same g = ap (λ (z : ℤ). neg_ℤ (upper_kw now z)) (sym (neg_grains finer g)) ∙ ap neg_ℤ (upper_same (neg_ℤ g))

pub published_same : (l : Limits) → published_of now (in_finer l) ≡ published_of first l
published_same l = λ i. record { low = kw (lower_same l.lower.0 i); high = kw (upper_same l.upper.0 i) }
