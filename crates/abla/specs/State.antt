-- What the state holds after a past, and what a second makes of a state. The stage is that of the newest second; its times are relative to it.
use Rattle.std.specs.Prelude.{◌≡◌, ℕ, zero, suc, ◌+◌, ◌*◌, min, Bool, true, false, not, cond, ◌&&◌, List, [], ◌∷◌, leb, ltb, ℤ, pos, ◌≤ℤ◌}
use Rattle.refusals.specs.Refusals.{Answer, Given, Refused, answer_number}
use Rattle.numbers.specs.Bounds.{Within}
use Rattle.numbers.specs.Rules.{Rule, first}
use Rattle.power.specs.declared.kilowatts.Kw.{Kw}
use Rattle.power.specs.declared.grains.Grains.{Grains}
use Rattle.power.specs.declared.limits.Limits.{Limits}
use Rattle.power.specs.declared.limits.Band.{Band}
use Rattle.power.specs.declared.limits.BandedSetpoint.{BandedSetpoint}
use Rattle.power.specs.Units.{kw, grains, most_reserve, in_grains}
use Rattle.power.specs.Inward.{published_of, Published}
use Rattle.abla.specs.declared.load.LoadSecond.{LoadSecond}
use Rattle.abla.specs.declared.stage.Stage.{Stage}
use Rattle.abla.specs.declared.stage.Stage.TheVariants.{Blank, Holding, Called, Returning}
use Rattle.abla.specs.declared.AblaState.{AblaState}
use Rattle.abla.specs.Calls.{History, flagged, is_quick, latest, since, quarter_hour, hour}
use Rattle.abla.specs.Band.{per_kw, setpoint_of, lowest_point, holding, called, called_upper, lower_of, lower_before, ramp_of, returning, limits_on, band_at}
use Rattle.abla.specs.Refusals.{most_power, load_rules, refusal}

-- ---- what the state holds after a past

-- seconds of a call count up to one hour
unfoldable pub stage_of : History → Stage
stage_of [] = Blank
stage_of (x ∷ h) =
    cond (flagged x)
    (Called (latest (x ∷ h)).first.class (min (latest (x ∷ h)).seconds hour) (ramp_of (latest (x ∷ h))))
    (cond (returning (x ∷ h)) (Returning (since (x ∷ h)) (ramp_of (latest (x ∷ h)))) Holding)

unfoldable pub state_of : History → AblaState
state_of h = record { stage = stage_of h; before = grains (lower_before h) }

-- ---- what a step asks of a state: plain ranges

-- how far a lower limit can lie from 0, in kW: that of a ramp is an m - 0.2 × z - working point of any size, since 32 asks nothing of a load
-- that is called or returns; and how far an upper one: a setpoint + 0.2 × z
abbrev pub lower_most : ℕ
lower_most = 8200000

abbrev pub upper_most : ℕ
upper_most = 1200000

pub record LimitsReady (l : Limits) : Type 0 where
  pub lower_range : Within (lower_most * per_kw) l.lower.0
  pub upper_range : Within (upper_most * per_kw) l.upper.0

abbrev pub StageReady : Stage → Type 0
StageReady Blank = Unit
StageReady Holding = Unit
StageReady (Called class seconds ramp) = LimitsReady ramp
StageReady (Returning since ramp) = LimitsReady ramp

-- a clause and no invariant of the type: `state_of` is also of pasts that were not accepted, whose states are not ready
pub record Ready (s : AblaState) : Type 0 where
  pub stage_ready : StageReady s.stage
  pub before_range : Within (lower_most * per_kw) s.before.0

-- what a second that is not refused has: "m outside ±4,000,000" and "z .. outside 0 to 1,000,000" are 31, a setpoint out of range is 33
pub record Fields (x : LoadSecond) : Type 0 where
  pub minimum_range : Within most_power x.minimum.0
  pub awarded_range : Within most_reserve x.awarded.0

pub record Fair (x : LoadSecond) : Type 0 where
  pub fields : Fields x
  pub setpoint_range : Within most_reserve (setpoint_of x)
  pub setpoint_sign : pos 0 ≤ℤ setpoint_of x
  pub working_range : Within most_power x.working.0

-- and, where it is on and holds, by 32: its working point is within m - 0.2 × z to m
pub record PointIn (x : LoadSecond) : Type 0 where
  pub above : lowest_point x ≤ℤ in_grains per_kw x.working.0
  pub below : in_grains per_kw x.working.0 ≤ℤ in_grains per_kw x.minimum.0

-- ---- what a second makes of a state: the definitions over the past, on what the state holds

-- a second's answer, and the state after it
pub record AblaStep : Type 0 where
  pub answer : Answer BandedSetpoint
  pub state : AblaState

abbrev pub given_value : Kw → Band → Answer BandedSetpoint
given_value s b = Given (record { setpoint = s; band = b })

-- one more second of a call, up to one hour
unfoldable pub more : ℕ → ℕ
more n = cond (ltb n hour) (n + 1) n

-- the stage at second x with a set flag: its call goes on, or it begins
unfoldable pub begun_in : Grains → LoadSecond → Stage
begun_in before x = Called x.class 1 (record { lower = before; upper = grains (called_upper x) })

unfoldable pub flagged_in : Stage → Grains → LoadSecond → Stage
flagged_in Blank before x = begun_in before x
flagged_in Holding before x = begun_in before x
flagged_in (Called class seconds ramp) before x = Called class (more seconds) ramp
flagged_in (Returning since ramp) before x = begun_in before x

-- and at a second without: "for 900 seconds after any call under one hour"
unfoldable pub unflagged_in : Stage → Stage
unflagged_in Blank = Holding
unflagged_in Holding = Holding
unflagged_in (Called class seconds ramp) = cond (ltb seconds hour) (Returning 1 ramp) Holding
unflagged_in (Returning since ramp) = cond (ltb since quarter_hour) (Returning (since + 1) ramp) Holding

unfoldable pub stage_in : AblaState → LoadSecond → Stage
stage_in s x = cond (flagged x) (flagged_in s.stage s.before x) (unflagged_in s.stage)

unfoldable pub blank_in : Stage → Bool
blank_in Blank = true
blank_in Holding = false
blank_in (Called class seconds ramp) = false
blank_in (Returning since ramp) = false

unfoldable pub holding_in : Stage → Bool
holding_in Blank = false
holding_in Holding = true
holding_in (Called class seconds ramp) = false
holding_in (Returning since ramp) = false

-- among "the first 900 seconds of a quick call"
unfoldable pub first_in : ℕ → ℕ → Bool
first_in class seconds = is_quick class && leb seconds quarter_hour

-- the limits at second x in a stage, not widened
unfoldable pub limits_in : Stage → LoadSecond → Limits
limits_in Blank x = holding x
limits_in Holding x = holding x
limits_in (Called class seconds ramp) x = cond (first_in class seconds) ramp (called x)
limits_in (Returning since ramp) x = ramp

-- "no call and no return ramp" at second x
unfoldable pub holds_in : AblaState → LoadSecond → Bool
holds_in s x = not (flagged x) && holding_in (unflagged_in s.stage)

abbrev pub rules_in : AblaState → LoadSecond → List Rule
rules_in s x = load_rules (blank_in s.stage) (holds_in s x) x

unfoldable pub refusal_in : AblaState → LoadSecond → ℕ
refusal_in s x = first (rules_in s x)

unfoldable pub accepted_in : AblaState → LoadSecond → AblaStep
accepted_in s x =
    record {
      answer = given_value (kw (setpoint_of x)) (published_of per_kw (limits_on x (limits_in (stage_in s x) x)));
      state = record { stage = stage_in s x; before = grains (lower_of x) };
    }

-- by its number, a second gives setpoint, band and the next state; or it is refused, with the state as it was
unfoldable pub step_by : ℕ → AblaState → AblaStep → AblaStep
step_by zero old new = new
step_by (suc n) old new = record { answer = Refused (suc n); state = old }

-- second x, from a state
unfoldable pub step_in : AblaState → LoadSecond → AblaStep
step_in s x = step_by (refusal_in s x) s (accepted_in s x)

-- second x, after the past h
unfoldable pub step_of : History → LoadSecond → AblaStep
step_of h x =
    step_by (refusal h x) (state_of h) (record { answer = given_value (kw (setpoint_of x)) (band_at h x); state = state_of (x ∷ h) })

-- ---- what a step ensures

-- 02's setpoint and band for each case of an answer; 0 of a refusal
abbrev pub setpoint_in : Answer BandedSetpoint → ℤ
setpoint_in (Given v) = v.setpoint.0
setpoint_in (Refused n) = pos 0

abbrev pub band_in : Answer BandedSetpoint → Band
band_in (Given v) = v.band
band_in (Refused n) = record { low = kw (pos 0); high = kw (pos 0) }

pub record GivenRange (s : Kw) (b : Band) : Type 0 where
  pub setpoint_range : Within most_reserve s.0
  pub setpoint_sign : pos 0 ≤ℤ s.0
  pub contains : Published b s.0
  pub small : Within lower_most b.low.0 × Within upper_most b.high.0

pub record Stepped (s : AblaState) (x : LoadSecond) (r : AblaStep) : Type 0 where
  pub is : r ≡ step_in s x
  -- what callers need to go on
  pub number : answer_number r.answer ≡ refusal_in s x
  pub given : {v : BandedSetpoint} → r.answer ≡ Given v → GivenRange v.setpoint v.band
  pub refused : {n : ℕ} → r.answer ≡ Refused n → n ≡ 0 → ⊥
  pub ready : Ready r.state
