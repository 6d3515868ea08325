-- The mFRR band by document 01's figures (01, "Bands").
use Rattle.std.specs.Prelude.{ℕ, ◌+◌, cond, List, [], ◌∷◌, ltb, ℤ, pos, length}
use Rattle.power.specs.declared.limits.Limits.{Limits}
use Rattle.power.specs.declared.limits.Band.{Band}
use Rattle.power.specs.Units.{grains, in_grains}
use Rattle.power.specs.Inward.{published_of}
use Rattle.mfrr.specs.Signal.{MfrrSecond, quiet, call, History, Phase, resting, ramping_up, delivering, ramping_down, signal, phase_at, phase_now, setpoint_at, last_of, is_resting}
use Rattle.mfrr.specs.Limits.{span, span_all}
use Rattle.first_sheet.specs.Grains.{first, times12}

-- a power in kW by itself
abbrev pub point : ℤ → Limits
point z = record { lower = grains (in_grains first z); upper = grains (in_grains first z) }

-- "e, 1.2 × e"
abbrev pub target_limits : ℤ → Limits
target_limits e = span (point e) (record { lower = grains (times12 e); upper = grains (times12 e) })

-- "ramping up b, e, 1.2 × e; delivering e, 1.2 × e; ramping down 0, e, 1.2 × e"
unfoldable pub limits_of : Phase → Limits
limits_of resting = point (pos 0)
limits_of (ramping_up b e j D) = span (point b) (target_limits e)
limits_of (delivering e D) = target_limits e
limits_of (ramping_down e D) = span (point (pos 0)) (target_limits e)

-- "its limits there count on, as a leftover, until the phase at j would have ended, that second included": the limits, and the second after
pub record Leftover : Type 0 where
  pub limits : Limits
  pub free : ℕ

-- "A new call ends the old one; if that one isn't resting at j", there is one
unfoldable pub ended : Phase → List Leftover → List Leftover
ended p ls = cond (is_resting p) ls (record { limits = limits_of p; free = last_of p + 1 } ∷ ls)

unfoldable pub leftovers : History → List Leftover
leftovers [] = []
leftovers (quiet ∷ h) = leftovers h
leftovers (call e D ∷ h) = ended (phase_at (signal h) (length h)) (leftovers h)

unfoldable pub counting : ℕ → List Leftover → List Limits
counting t [] = []
counting t (x ∷ xs) = cond (ltb t x.free) (x.limits ∷ counting t xs) (counting t xs)

-- "The band spans s, the running call and all leftovers"
unfoldable pub limits_at : History → MfrrSecond → Limits
limits_at h x = span_all (span (point (setpoint_at h x)) (limits_of (phase_now h x))) (counting (length h) (leftovers (x ∷ h)))

abbrev pub band_at : History → MfrrSecond → Band
band_at h x = published_of first (limits_at h x)
