-- AbLa's setpoint and band over the past (02, W10; 004, lines 354 to 378). Consumption is negative.
use Rattle.std.specs.Prelude.{ℕ, Bool, cond, not, ◌&&◌, [], ◌∷◌, ℤ, pos, ◌+ℤ◌, ◌-ℤ◌}
use Rattle.numbers.specs.Order.{max_z, min_z}
use Rattle.power.specs.declared.limits.Limits.{Limits}
use Rattle.power.specs.declared.limits.Band.{Band}
use Rattle.power.specs.Units.{grains, in_grains, percent_of}
use Rattle.power.specs.Inward.{published_of}
use Rattle.abla.specs.declared.load.LoadSecond.{LoadSecond}
use Rattle.abla.specs.Calls.{History, is_on, flagged, Call, latest, since, in_first, in_return}

-- limits are carried in fifths of a kW, whatever the sheet is, so that 0.2 × z is whole
abbrev pub per_kw : ℕ
per_kw = 5

-- 0.2 × a power in kW, in fifths of a kW
abbrev pub fifth_of : ℤ → ℤ
fifth_of k = percent_of per_kw 20 k

-- the setpoint in kW is the record's: "Holding: setpoint 0" by refusal 33, off by 31
abbrev pub setpoint_of : LoadSecond → ℤ
setpoint_of x = x.setpoint.0

-- m - 0.2 × z: the lowest working point of a load that holds
unfoldable pub lowest_point : LoadSecond → ℤ
lowest_point x = in_grains per_kw x.minimum.0 -ℤ fifth_of x.awarded.0

-- "Holding: .. band from m - 0.2 × z - working point to m - working point"
unfoldable pub holding_lower : LoadSecond → ℤ
holding_lower x = lowest_point x -ℤ in_grains per_kw x.working.0

unfoldable pub holding : LoadSecond → Limits
holding x =
    record {
      lower = grains (holding_lower x);
      upper = grains (in_grains per_kw x.minimum.0 -ℤ in_grains per_kw x.working.0);
    }

-- "Called: setpoint to setpoint + 0.2 × z"
unfoldable pub called_upper : LoadSecond → ℤ
called_upper x = in_grains per_kw (setpoint_of x) +ℤ fifth_of x.awarded.0

unfoldable pub called : LoadSecond → Limits
called x = record { lower = grains (in_grains per_kw (setpoint_of x)); upper = grains (called_upper x) }

-- "holding's lower limit in the last second before the call (not widened; 0 if the load was off)": of a second, and of a past's last one
unfoldable pub lower_of : LoadSecond → ℤ
lower_of x = cond (is_on x) (holding_lower x) (pos 0)

unfoldable pub lower_before : History → ℤ
lower_before [] = pos 0
lower_before (x ∷ h) = lower_of x

-- "from holding's lower limit in the last second before the call .. to the called upper limit of the call's first second"
unfoldable pub ramp_of : Call → Limits
ramp_of c = record { lower = grains (lower_before c.before); upper = grains (called_upper c.first) }

-- the newest second of a past lies in a return ramp, where its flag is not set; it holds where there is "no call and no return ramp"
unfoldable pub returning : History → Bool
returning h = in_return (latest h) (since h)

unfoldable pub holds : History → LoadSecond → Bool
holds h x = not (flagged x) && not (returning (x ∷ h))

-- the limits at second x, after the past h, not widened
unfoldable pub stage_limits : History → LoadSecond → Limits
stage_limits h x =
    cond (flagged x)
    (cond (in_first (latest (x ∷ h))) (ramp_of (latest (x ∷ h))) (called x))
    (cond (returning (x ∷ h)) (ramp_of (latest (x ∷ h))) (holding x))

-- "widened, where needed, to hold its setpoint"
unfoldable pub widened : ℤ → Limits → Limits
widened s l =
    record {
      lower = grains (min_z l.lower.0 (in_grains per_kw s));
      upper = grains (max_z l.upper.0 (in_grains per_kw s));
    }

-- "off, with band and value 0"
unfoldable pub none : Limits
none = record { lower = grains (pos 0); upper = grains (pos 0) }

-- "Each band of a load that is on is widened"
unfoldable pub limits_on : LoadSecond → Limits → Limits
limits_on x l = cond (is_on x) (widened (setpoint_of x) l) none

unfoldable pub limits_at : History → LoadSecond → Limits
limits_at h x = limits_on x (stage_limits h x)

-- the band as published: whole kW, rounded inward
abbrev pub band_at : History → LoadSecond → Band
band_at h x = published_of per_kw (limits_at h x)
