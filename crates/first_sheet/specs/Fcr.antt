-- The FCR band by document 01's figures (01, "Bands").
use Rattle.std.specs.Prelude.{ℕ, ◌-◌, cond, List, ◌∷◌, leb, ℤ, pos, ◌+ℤ◌, ◌-ℤ◌, ◌*ℤ◌}
use Rattle.std.specs.Int.Signed.{quot_z}
use Rattle.numbers.specs.Order.{max_z}
use Rattle.power.specs.declared.kilowatts.Kw.{Kw}
use Rattle.power.specs.declared.limits.Limits.{Limits}
use Rattle.power.specs.declared.limits.Band.{Band}
use Rattle.power.specs.Units.{grains, in_grains}
use Rattle.power.specs.Inward.{published_of}
use Rattle.fcr.specs.Band.{fallen, risen, sum_to, aged}
use Rattle.first_sheet.specs.Grains.{first, five_percent}

-- "weight d for a up to 15, then d × (30 - a) / 30"
unfoldable pub weight : ℕ → ℤ → ℤ
weight a d = cond (leb a 15) (in_grains first d) (quot_z (in_grains first d *ℤ pos (30 - a)) (pos 30))

unfoldable pub fall_of : ℤ → ℕ → ℤ → ℤ → ℤ
fall_of s a before sj = weight a (fallen s before sj)

unfoldable pub rise_of : ℤ → ℕ → ℤ → ℤ → ℤ
rise_of s a before sj = weight a (risen s before sj)

-- "the larger of 5 % of held and the summed weights", of the ages "0 to 30"
abbrev pub tolerance_of : (ℤ → ℕ → ℤ → ℤ → ℤ) → List Kw → Kw → ℤ
tolerance_of one now held = max_z (five_percent held.0) (sum_to 31 (aged one now))

-- "Upper limit: s plus the larger of 5 % of held and the summed weights of falls", "Lower: s minus the larger of 5 % and the weights of rises"
unfoldable pub limits_at : List Kw → Kw → Kw → Limits
limits_at h s held =
    record {
      lower = grains (in_grains first s.0 -ℤ tolerance_of rise_of (s ∷ h) held);
      upper = grains (in_grains first s.0 +ℤ tolerance_of fall_of (s ∷ h) held);
    }

abbrev pub band_at : List Kw → Kw → Kw → Band
band_at h s held = published_of first (limits_at h s held)
