-- A step from the state after a past gives what the past gives. Assumes nothing.
use Rattle.std.proofs.Common.{◌≡◌, refl, ap, true, false, cond, [], ◌∷◌, ℕ, zero, suc, ◌+◌, min, arith, leb, ltb}
use Rattle.numbers.specs.Rules.{first}
use Rattle.std.proofs.lemmas.Bool.Decides.{nat_tests}
use Rattle.refusals.specs.Refusals.{answer_number}
use Rattle.power.specs.Units.{kw, grains}
use Rattle.abla.specs.declared.load.LoadSecond.{LoadSecond}
use Rattle.abla.specs.declared.stage.Stage.{Stage}
use Rattle.abla.specs.declared.stage.Stage.TheVariants.{Holding, Called, Returning}
use Rattle.abla.specs.Calls.{History, flagged, flagged_last, Call, no_call, begun, longer, latest, since, quarter_hour, hour, in_first, in_return}
use Rattle.abla.proofs.Runs.{goes_on, begins, some}
use Rattle.abla.specs.Band.{setpoint_of, lower_of, lower_before, ramp_of, returning, holds, stage_limits, limits_at, band_at}
use Rattle.abla.specs.Refusals.{is_blank, rules_at, refusal}
use Rattle.abla.specs.State.{stage_of, state_of, more, begun_in, flagged_in, unflagged_in, stage_in, blank_in, holding_in, first_in, limits_in, holds_in, rules_in, refusal_in, accepted_in, step_by, step_in, step_of, given_value, setpoint_in, band_in}

-- ---- counts up to one hour

more_min : (n : ℕ) → more (min n hour) ≡ min (n + 1) hour
unfolding more
more_min n = grind (arith, nat_tests)

under : (n : ℕ) → ltb (min n hour) hour ≡ ltb n hour
under n = grind (arith, nat_tests)

within_first : (n : ℕ) → leb (min n hour) quarter_hour ≡ leb n quarter_hour
within_first n = grind (arith, nat_tests)

-- ---- the stage, a second later

-- of a past whose newest second has a set flag, and of one whose newest second has none
no_call_lem : (x : LoadSecond) (h : History) → flagged x ≡ false → stage_of (x ∷ h) ≡ cond (returning (x ∷ h)) (Returning (since (x ∷ h)) (ramp_of (latest (x ∷ h)))) Holding
unfolding stage_of
no_call_lem x h f = rw f

-- the stage of a call that the newest second is in
abbrev in_call : Call → Stage
in_call c = Called c.first.class (min c.seconds hour) (ramp_of c)

longer_stage : (c : Call) (h : History) (x : LoadSecond) → flagged_in (in_call c) (grains (lower_before h)) x ≡ in_call (longer c)
unfolding flagged_in longer ramp_of
longer_stage c h x = rw (more_min c.seconds)

with_flag : (h : History) (x : LoadSecond) → flagged x ≡ true → flagged_in (stage_of h) (grains (lower_before h)) x ≡ stage_of (x ∷ h)
unfolding stage_of flagged_last flagged_in begun_in latest begun ramp_of
with_flag [] x f = grind arith
with_flag (y ∷ h) x f =
    let longer_is = longer_stage (latest (y ∷ h)) (y ∷ h) x in
    let on = goes_on x (y ∷ h) f in
    let anew = begins x (y ∷ h) f in
    grind arith

without_flag : (h : History) (x : LoadSecond) → flagged x ≡ false → unflagged_in (stage_of h) ≡ stage_of (x ∷ h)
unfolding stage_of flagged_last returning unflagged_in in_return latest since no_call
without_flag [] x f = grind (arith, nat_tests)
without_flag (y ∷ h) x f =
    let m = under (latest (y ∷ h)).seconds in
    let s = some (y ∷ h) in
    grind (arith, nat_tests)

-- the stage of a second is that of the past with it
pub same_stage : (h : History) (x : LoadSecond) → stage_in (state_of h) x ≡ stage_of (x ∷ h)
unfolding stage_in state_of
same_stage h x =
    let on = with_flag h x in
    let off = without_flag h x in
    grind arith

-- ---- the number

blank : (h : History) → blank_in (state_of h).stage ≡ is_blank h
unfolding state_of stage_of blank_in is_blank
blank [] = refl
blank (x ∷ h) = grind arith

holding : (h : History) (x : LoadSecond) → holds_in (state_of h) x ≡ holds h x
unfolding holds_in holds state_of holding_in
holding h x =
    let off = without_flag h x in
    let e = no_call_lem x h in
    grind arith

pub rules : (h : History) (x : LoadSecond) → rules_in (state_of h) x ≡ rules_at h x
rules h x = rw (holding h x, blank h)

pub same_number : (h : History) (x : LoadSecond) → refusal_in (state_of h) x ≡ refusal h x
unfolding refusal_in refusal
same_number h x = ap first (rules h x)

-- ---- what it gives

same_limits : (h : History) (x : LoadSecond) → limits_in (stage_of (x ∷ h)) x ≡ stage_limits h x
unfolding stage_limits stage_of limits_in first_in in_first
same_limits h x =
    let first = within_first (latest (x ∷ h)).seconds in
    grind arith

state_is : (h : History) (x : LoadSecond) → state_of (x ∷ h) ≡ record { stage = stage_of (x ∷ h); before = grains (lower_of x) }
unfolding state_of lower_before
state_is h x = refl

pub accepted : (h : History) (x : LoadSecond) → accepted_in (state_of h) x ≡ record { answer = given_value (kw (setpoint_of x)) (band_at h x); state = state_of (x ∷ h) }
unfolding accepted_in limits_at
accepted h x = rw (same_stage h x, same_limits h x, state_is h x)

-- ---- a step

pub follows : (h : History) (x : LoadSecond) → step_in (state_of h) x ≡ step_of h x
unfolding step_in step_of
follows h x = rw (same_number h x, accepted h x)

-- ---- its answer in 02's figures

pub number : (h : History) (x : LoadSecond) → answer_number (step_in (state_of h) x).answer ≡ refusal h x
unfolding step_of step_by
number h x = rw (follows h x) (go (refusal h x))
  where
    go :
        (n : ℕ) →
        answer_number (step_by n (state_of h) (record { answer = given_value (kw (setpoint_of x)) (band_at h x); state = state_of (x ∷ h) })).answer ≡ n
    go zero = refl
    go (suc n) = refl

module _ (h : History) (x : LoadSecond) (z : refusal h x ≡ 0) where
  pub setpoint : setpoint_in (step_in (state_of h) x).answer ≡ setpoint_of x
  unfolding step_of step_by
  setpoint = rw (follows h x, z)

  pub band : band_in (step_in (state_of h) x).answer ≡ band_at h x
  unfolding step_of step_by
  band = rw (follows h x, z)
