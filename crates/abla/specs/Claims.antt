-- What is claimed of AbLa's definitions, over every past. The proof is `claims` of proofs/Claims.antt.
use Rattle.std.specs.Prelude.{◌≡◌, ℕ, ◌<◌, true, false, ◌∷◌, ℤ, pos, ◌*ℤ◌}
use Rattle.refusals.specs.Refusals.{Refused, answer_number}
use Rattle.power.specs.declared.kilowatts.Kw.{Kw}
use Rattle.power.specs.Units.{kw, in_grains}
use Rattle.power.specs.Inward.{Contains, Published}
use Rattle.abla.specs.declared.load.LoadSecond.{LoadSecond}
use Rattle.abla.specs.declared.AblaState.{AblaState}
use Rattle.abla.specs.Calls.{History, off, is_on, flagged, latest, since, in_first, Each, Ran}
use Rattle.abla.specs.Band.{per_kw, fifth_of, setpoint_of, holding, called, holds, limits_at, band_at}
use Rattle.abla.specs.Refusals.{rules_at, refusal, Accepted}
use Rattle.abla.specs.State.{state_of, Ready, rules_in, step_in, step_of, given_value, setpoint_in, band_in, GivenRange}

pub record Claims : Type 0 where
  -- the latest call is the past's newest run of set flags, and where there is none no flag is set
  pub latest_run : (h : History) → 0 < (latest h).seconds → Ran h (latest h) (since h)
  pub no_run : (h : History) → (latest h).seconds ≡ 0 → Each false h
  -- 0.2 × z is exact in the unit that limits are carried in
  pub fifth_exact : (z : ℤ) → fifth_of z *ℤ pos 5 ≡ in_grains per_kw z
  -- "Each band of a load that is on" holds its setpoint, in grains and as published
  pub contains : (h : History) (x : LoadSecond) → is_on x ≡ true → Contains per_kw (limits_at h x) (setpoint_of x)
  pub published : (h : History) (x : LoadSecond) → is_on x ≡ true → Published (band_at h x) (setpoint_of x)
  -- "A z of 0 means off, with band and value 0"
  pub off_band : (h : History) (x : LoadSecond) → is_on x ≡ false → band_at h x ≡ record { low = kw (pos 0); high = kw (pos 0) }
  pub off_setpoint : (h : History) (x : LoadSecond) → refusal h x ≡ 0 → is_on x ≡ false → setpoint_of x ≡ pos 0
  -- and no past, and no state, keeps a load from being off
  pub off_accepted : (h : History) (w : Kw) → refusal h (off w) ≡ 0
  pub off_given : (s : AblaState) (w : Kw) → (step_in s (off w)).answer ≡ given_value (kw (pos 0)) (record { low = kw (pos 0); high = kw (pos 0) })
  -- "Holding: setpoint 0", and in a return ramp
  pub no_call_lem : (h : History) (x : LoadSecond) → refusal h x ≡ 0 → flagged x ≡ false → setpoint_of x ≡ pos 0
  -- outside the ramps the limits are those of the formulas: only a ramp's are widened
  pub holding_exact : (h : History) (x : LoadSecond) → is_on x ≡ true → refusal h x ≡ 0 → holds h x ≡ true → limits_at h x ≡ holding x
  pub called_exact : (h : History) (x : LoadSecond) → is_on x ≡ true → flagged x ≡ true → in_first (latest (x ∷ h)) ≡ false → limits_at h x ≡ called x
  -- a step from the state after a past gives what the past gives, and the state after it
  pub follows : (h : History) (x : LoadSecond) → step_in (state_of h) x ≡ step_of h x
  pub rules : (h : History) (x : LoadSecond) → rules_in (state_of h) x ≡ rules_at h x
  -- a refused second leaves the state as it was
  pub unchanged : (s : AblaState) (x : LoadSecond) {n : ℕ} → (step_in s x).answer ≡ Refused n → (step_in s x).state ≡ s
  -- its answer in 02's figures
  pub number : (h : History) (x : LoadSecond) → answer_number (step_in (state_of h) x).answer ≡ refusal h x
  pub setpoint : (h : History) (x : LoadSecond) → refusal h x ≡ 0 → setpoint_in (step_in (state_of h) x).answer ≡ setpoint_of x
  pub band : (h : History) (x : LoadSecond) → refusal h x ≡ 0 → band_in (step_in (state_of h) x).answer ≡ band_at h x
  -- what a step asks of a state, and the ranges of what it gives
  pub ready : (h : History) → Accepted h → Ready (state_of h)
  pub range : (h : History) (x : LoadSecond) → Accepted (x ∷ h) → GivenRange (kw (setpoint_of x)) (band_at h x)
