-- What a kW weighs at each age in parts of the whole FCR time. Assumes nothing.
use Rattle.std.proofs.Common.{◌≡◌, refl, Bool, true, false, cond, ℕ, suc, ◌-◌, ◌≤◌, ◌<◌, arith, pos, w64, to_z, leb-true, leb-false}
use Rattle.numbers.specs.Bounds.{Within}
use Rattle.numbers.proofs.Fit.{within_unsigned}
use Rattle.power.specs.Units.{most_per_kw}
use Rattle.sheet.specs.declared.Sheet.{Sheet}
use Rattle.sheet.specs.Sheet.{InRange, whole_time, per_time_part}
use Rattle.sheet.proofs.Sizes.{spread_most}
use Rattle.fcr.specs.Band.{is_early}
use Rattle.fcr.specs.State.{most_age, time_parts}

module _ (sh : Sheet) where
  -- never more than all of it
  pub parts_most : (a : ℕ) → time_parts sh a ≤ whole_time sh
  parts_most a = go (is_early sh a)
    where
      go : (t : Bool) → cond t (whole_time sh) (whole_time sh - a) ≤ whole_time sh
      go true = omega arith
      go false = omega arith

  -- the older, the less
  pub parts_fall : (a : ℕ) → time_parts sh (suc a) ≤ time_parts sh a
  parts_fall a = go (is_early sh (suc a)) (is_early sh a) refl refl
    where
      go :
          (t u : Bool) →
          is_early sh (suc a) ≡ t →
          is_early sh a ≡ u →
          cond t (whole_time sh) (whole_time sh - suc a) ≤ cond u (whole_time sh) (whole_time sh - a)
      go true true d e = omega arith
      go true false d e = absurd (omega (arith, leb-true, leb-false))
      go false true d e = omega arith
      go false false d e = omega arith

  -- and nothing from the whole time on
  pub parts_over : 0 < whole_time sh → (a : ℕ) → whole_time sh ≤ a → time_parts sh a ≡ 0
  parts_over p a h = go (is_early sh a) refl
    where
      go : (t : Bool) → is_early sh a ≡ t → cond t (whole_time sh) (whole_time sh - a) ≡ 0
      go true e = absurd (omega (arith, leb-true))
      go false e = omega arith

  pub parts_within : InRange sh → (a : ℕ) → Within most_age (pos (time_parts sh a))
  parts_within r a = record { within = omega (arith, parts_most a, r.fcr_most) }

  -- the grains of a part: as they are, and as the machine reads them
  module _ (r : InRange sh) where
    pub part_most : per_time_part sh < most_per_kw
    unfolding per_time_part
    part_most = omega (arith, spread_most sh r)

    pub part_within : Within most_per_kw (pos (per_time_part sh))
    part_within = record { within = omega (arith, part_most) }

    pub part_read : Within most_per_kw (to_z w64 (per_time_part sh))
    part_read = within_unsigned most_per_kw most_per_kw w64 (per_time_part sh) part_most tt
