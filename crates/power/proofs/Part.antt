-- The grains of a kW and a percentage of them are small. Assumes nothing.
use Rattle.std.proofs.Common.{ℕ, ◌+◌, ◌*◌, ◌/◌, ◌≤◌, ◌<◌, mul-le-mul, arith, pos, w32, w64, Fits, to_z}
use Rattle.numbers.specs.Bounds.{Within}
use Rattle.numbers.proofs.Fit.{within_unsigned}
use Rattle.power.specs.Units.{most_per_kw, most_percent, Divides}

pub per_most : (per : ℕ) → Divides per → per < most_per_kw + 1
per_most per d = omega (arith, d.most)

pub per_within : (per : ℕ) → Divides per → Within (most_per_kw + 1) (pos per)
per_within per d = record { within = omega (arith, d.most) }

-- as the machine reads it from a wider number's bits
pub per_read : (per : ℕ) → Divides per → Within (most_per_kw + 1) (to_z w64 per)
per_read per d = within_unsigned (most_per_kw + 1) (most_per_kw + 1) w64 per (per_most per d) tt

module _ (per p : ℕ) (d : Divides per) (h : p ≤ most_percent) where
  product : per * p ≤ most_per_kw * most_percent
  product = mul-le-mul d.most h

  pub product_fits : Fits w32 (per * p)
  product_fits = record { fits = omega (arith, product) }

  -- a percentage of a kW
  pub part_most : per * p / 100 < most_per_kw * most_percent / 100 + 1
  part_most = omega (arith, product)

  pub part_within : Within (most_per_kw * most_percent / 100 + 1) (pos (per * p / 100))
  part_within = record { within = omega (arith, part_most) }

  pub part_read : Within (most_per_kw * most_percent / 100 + 1) (to_z w64 (per * p / 100))
  part_read = within_unsigned (most_per_kw * most_percent / 100 + 1) (most_per_kw * most_percent / 100 + 1) w64 (per * p / 100) part_most tt
