-- The aFRR band by document 01's figures (01, "Bands").
use Rattle.std.specs.Prelude.{List, [], ◌∷◌, ℤ, pos, ◌-ℤ◌}
use Rattle.std.specs.Int.Signed.{quot_z}
use Rattle.numbers.specs.Order.{max_z}
use Rattle.power.specs.declared.kilowatts.Kw.{Kw}
use Rattle.power.specs.declared.limits.Limits.{Limits}
use Rattle.power.specs.declared.limits.Band.{Band}
use Rattle.power.specs.Units.{grains, in_grains}
use Rattle.power.specs.Inward.{published_of}
use Rattle.afrr.specs.declared.Second.{Second}
use Rattle.afrr.specs.Band.{largest, smallest, ago, held_of, next_upper, next_lower, setpoints}
use Rattle.first_sheet.specs.Grains.{first, five_percent}

-- "the larger of 5,000 kW and (highest minus lowest of s(t-300) to s(t-30)), divided by 270"
unfoldable pub gradient : List Kw → ℤ
gradient p = quot_z (in_grains first (max_z (pos 5000) (largest (ago 30 300 p) -ℤ smallest (ago 30 300 p)))) (pos 270)

-- "the largest of s(t-30) to s(t-1), last upper limit minus gradient, and s plus 5 % of held", and its mirror
unfoldable pub limits_from : List Kw → Limits → Second → Limits
limits_from p last x =
    record {
      lower = grains (next_lower first (smallest (ago 1 30 p)) last.lower.0 (gradient p) x.setpoint.0 (five_percent (held_of x)));
      upper = grains (next_upper first (largest (ago 1 30 p)) last.upper.0 (gradient p) x.setpoint.0 (five_percent (held_of x)));
    }

-- each exact from the last; "Before second 0 all setpoints and limits are 0."
unfoldable pub last_limits : List Second → Limits
last_limits [] = record { lower = grains (pos 0); upper = grains (pos 0) }
last_limits (x ∷ h) = limits_from (setpoints h) (last_limits h) x

abbrev pub limits_at : List Second → Second → Limits
limits_at h x = last_limits (x ∷ h)

abbrev pub band_at : List Second → Second → Band
band_at h x = published_of first (limits_at h x)
