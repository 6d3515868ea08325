-- The grains of a kW, for every sheet: above 0, at most what they may be, and whole in each part. Assumes nothing.
use Rattle.std.proofs.Common.{◌≡◌, ap, ◌∙◌, ℕ, ◌*◌, ◌≤◌, mul_assoc, mul_comm, mul-le-mul, arith, ℤ, pos, ◌*ℤ◌}
use Rattle.power.specs.Units.{Divides, in_grains, percent_of}
use Rattle.power.proofs.Inside.{percent_exact}
use Rattle.sheet.specs.declared.Sheet.{Sheet}
use Rattle.sheet.specs.Sheet.{InRange, whole_time, spread, per_kw, per_time_part, per_spread_part}

module _ (sh : Sheet) where
  pub percent_whole : (p : ℕ) (k : ℤ) → percent_of (per_kw sh) p k *ℤ pos 100 ≡ in_grains (per_kw sh) k *ℤ pos p
  unfolding per_kw
  percent_whole p k = percent_exact (whole_time sh * spread sh) p k

  pub time_part : per_time_part sh * whole_time sh ≡ per_kw sh
  unfolding per_kw per_time_part
  time_part = mul_assoc 100 (spread sh) (whole_time sh) ∙ ap (λ (n : ℕ). 100 * n) (mul_comm (spread sh) (whole_time sh))

  pub spread_part : per_spread_part sh * spread sh ≡ per_kw sh
  unfolding per_kw per_spread_part
  spread_part = mul_assoc 100 (whole_time sh) (spread sh)

  module _ (r : InRange sh) where
    -- the whole FCR time and the spread
    pub time_some : 10 ≤ whole_time sh
    time_some = omega (arith, r.fcr_least)

    pub time_most : whole_time sh ≤ 30
    time_most = omega (arith, r.fcr_most)

    pub spread_some : 240 ≤ spread sh
    spread_some = omega (arith, r.afrr_most)

    pub spread_most : spread sh ≤ 299
    spread_most = omega (arith, r.afrr_least)

    pub product_some : 10 * 240 ≤ whole_time sh * spread sh
    product_some = mul-le-mul time_some spread_some

    pub product_most : whole_time sh * spread sh ≤ 30 * 299
    product_most = mul-le-mul time_most spread_most

    pub divides : Divides (per_kw sh)
    unfolding per_kw
    divides = record { some = omega (arith, product_some); most = omega (arith, product_most) }
