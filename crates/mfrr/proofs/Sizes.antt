-- The sizes of limits in grains, for every sheet in range. Assumes nothing.
use Rattle.std.proofs.Common.{◌≡◌, sym, subst, ℕ, suc, ◌*◌, ◌/◌, ◌≤◌, zero-mul, le_trans, mul-le-mul_left, mul-le-mul_right, arith, ℤ, pos, negsuc, ◌*ℤ◌}
use Rattle.numbers.specs.Bounds.{Within}
use Rattle.numbers.proofs.Fit.{abs_neg}
use Rattle.power.specs.Units.{grains, most_reserve, most_percent, in_grains, percent_of}
use Rattle.sheet.specs.declared.Sheet.{Sheet}
use Rattle.sheet.specs.Sheet.{InRange, per_kw}
use Rattle.mfrr.specs.Limits.{point, times_factor}
use Rattle.mfrr.specs.State.{most_limit}

-- 0 kW is no grain under any sheet
pub rest_limits : (sh : Sheet) → point sh (pos 0) ≡ record { lower = grains (pos 0); upper = grains (pos 0) }
unfolding point
rest_limits sh = λ i. record { lower = grains (pos (zero-mul (per_kw sh) i)); upper = grains (pos (zero-mul (per_kw sh) i)) }

times_within : (A k : ℕ) {B : ℕ} (a : ℤ) → Within A a → A * k ≤ B → Within B (a *ℤ pos k)
times_within A k (pos n) h le = record { within = le_trans (mul-le-mul_right k h.within) le }
times_within A k {B} (negsuc n) h le =
    record { within = subst (λ (m : ℕ). m ≤ B) (sym (abs_neg (pos (suc n * k)))) (le_trans (mul-le-mul_right k h.within) le) }

-- of a power, whatever the grains of a kW are
pub grains_within : (per : ℕ) (z : ℤ) → Within most_reserve z → Within (most_limit * per) (in_grains per z)
grains_within per z w = times_within most_reserve per z w (omega arith)

-- and of a percentage of one
percent_within : (per p : ℕ) → p ≤ most_percent → (z : ℤ) → Within most_reserve z → Within (most_limit * per) (percent_of per p z)
percent_within per p h z w =
    let m : per * p ≤ per * most_percent = mul-le-mul_left per h in
    times_within most_reserve (per * p / 100) z w (omega arith)

pub factor_within : (sh : Sheet) → InRange sh → (e : ℤ) → Within most_reserve e → Within (most_limit * per_kw sh) (times_factor sh e)
unfolding times_factor
factor_within sh r e w = percent_within (per_kw sh) _ (omega (arith, r.excess)) e w
