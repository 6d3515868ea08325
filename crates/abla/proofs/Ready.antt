-- What a step asks of a state gives the ranges of its values and of the states that follow. Assumes nothing.
use Rattle.std.proofs.Common.{◌≡◌, refl, Bool, true, false, not, cond, ◌&&◌, ℕ, ◌+◌, ◌*◌, ◌/◌, arith, ltb, lit<, ℤ, ◌-ℤ◌, ◌≤ℤ◌, w32, SFits}
use Rattle.numbers.specs.Bounds.{Within}
use Rattle.numbers.proofs.Parts.{reads, nat_within, between, add_nat, sub_nat, mul_nat}
use Rattle.numbers.proofs.Fit.{fit, within_cond}
use Rattle.power.specs.declared.limits.Limits.{Limits}
use Rattle.power.specs.Units.{most_reserve, in_grains}
use Rattle.power.specs.Inward.{published_of}
use Rattle.power.proofs.Inside.{upper_within, lower_within}
use Rattle.abla.specs.declared.load.LoadSecond.{LoadSecond}
use Rattle.abla.specs.declared.stage.Stage.{Stage}
use Rattle.abla.specs.declared.stage.Stage.TheVariants.{Blank, Holding, Called, Returning}
use Rattle.abla.specs.declared.AblaState.{AblaState}
use Rattle.abla.specs.Calls.{is_on, flagged, quarter_hour, hour}
use Rattle.abla.specs.Band.{per_kw, fifth_of, setpoint_of, lowest_point, holding_lower, holding, called_upper, called, lower_of, widened, none, limits_on}
use Rattle.abla.specs.Refusals.{most_power}
use Rattle.abla.specs.State.{lower_most, upper_most, LimitsReady, StageReady, Ready, Fair, PointIn, begun_in, flagged_in, unflagged_in, stage_in, holding_in, first_in, limits_in, holds_in, refusal_in, accepted_in}
use Rattle.abla.proofs.Rules.{point}

-- ---- the limits of a second

-- m - 0.2 × z - working point, each as large as it may be
lower_most_lem : (m z w : ℤ) → Within most_power m → Within most_reserve z → Within most_power w → Within (lower_most * per_kw) ((in_grains per_kw m -ℤ fifth_of z) -ℤ in_grains per_kw w)
lower_most_lem m z w a b c =
    nat_within (omega (
      arith,
      reads,
      sub_nat (in_grains per_kw m -ℤ fifth_of z) (in_grains per_kw w),
      sub_nat (in_grains per_kw m) (fifth_of z),
      mul_nat m per_kw,
      mul_nat z (per_kw * 20 / 100),
      mul_nat w per_kw,
    ))

-- a - w, where w is from a - g to a
upper_most_lem : (B : ℕ) (a g w : ℤ) → (a -ℤ g) ≤ℤ w → w ≤ℤ a → Within B g → Within B (a -ℤ w)
upper_most_lem B a g w h k b =
    between (omega (arith, reads, sub_nat a g, sub_nat a w)) (omega (arith, reads, sub_nat a g, sub_nat a w))

module _ (x : LoadSecond) (f : Fair x) where
  lower_in : Within (lower_most * per_kw) (holding_lower x)
  unfolding holding_lower lowest_point
  lower_in = lower_most_lem _ _ _ f.fields.minimum_range f.fields.awarded_range f.working_range

  holding_ready : PointIn x → LimitsReady (holding x)
  unfolding holding lowest_point
  holding_ready p =
      record {
        lower_range = lower_in;
        upper_range = upper_most_lem (upper_most * per_kw) _ (fifth_of x.awarded.0) _ p.above p.below (search fit depth 9);
      }

  upper_in : Within (upper_most * per_kw) (called_upper x)
  unfolding called_upper
  upper_in =
      nat_within (omega (
        arith,
        reads,
        add_nat (in_grains per_kw (setpoint_of x)) (fifth_of x.awarded.0),
        mul_nat (setpoint_of x) per_kw,
        mul_nat x.awarded.0 (per_kw * 20 / 100),
      ))

  called_ready : LimitsReady (called x)
  unfolding called
  called_ready = record { lower_range = search fit depth 9; upper_range = upper_in }

  before_in_lem : Within (lower_most * per_kw) (lower_of x)
  unfolding lower_of
  before_in_lem = within_cond _ (is_on x) _ _ lower_in (search fit)

  widened_ready : (l : Limits) → LimitsReady l → LimitsReady (widened (setpoint_of x) l)
  unfolding widened
  widened_ready l r = record { lower_range = search fit depth 9; upper_range = search fit depth 9 }

none_ready : LimitsReady none
unfolding none
none_ready = record { lower_range = search fit; upper_range = search fit }

-- ---- the stage of a second

module _ (s : AblaState) (r : Ready s) (x : LoadSecond) (f : Fair x) where
  begun_ready : StageReady (begun_in s.before x)
  unfolding begun_in
  begun_ready = record { lower_range = r.before_range; upper_range = upper_in x f }

  flagged_ready : (p : Stage) → StageReady p → StageReady (flagged_in p s.before x)
  unfolding flagged_in
  flagged_ready Blank q = begun_ready
  flagged_ready Holding q = begun_ready
  flagged_ready (Called class seconds ramp) q = q
  flagged_ready (Returning since ramp) q = begun_ready

  over_ready : (b : Bool) (k : ℕ) (l : Limits) → LimitsReady l → StageReady (cond b (Returning k l) Holding)
  over_ready true k l q = q
  over_ready false k l q = tt

  unflagged_ready : (p : Stage) → StageReady p → StageReady (unflagged_in p)
  unfolding unflagged_in
  unflagged_ready Blank q = tt
  unflagged_ready Holding q = tt
  unflagged_ready (Called class seconds ramp) q = over_ready (ltb seconds hour) 1 ramp q
  unflagged_ready (Returning since ramp) q = over_ready (ltb since quarter_hour) (since + 1) ramp q

  stage_ready : StageReady (stage_in s x)
  unfolding stage_in
  stage_ready = go (flagged x)
    where
      go : (b : Bool) → StageReady (cond b (flagged_in s.stage s.before x) (unflagged_in s.stage))
      go true = flagged_ready s.stage r.stage_ready
      go false = unflagged_ready s.stage r.stage_ready

  pub next_ready : Ready (accepted_in s x).state
  unfolding accepted_in
  next_ready = record { stage_ready = stage_ready; before_range = before_in_lem x f }

  -- ---- its limits, where it is on

  first_ready : (b : Bool) (l : Limits) → LimitsReady l → LimitsReady (cond b l (called x))
  first_ready true l q = q
  first_ready false l q = called_ready x f

  -- in a call
  call_limits : (class : ℕ) (seconds : ℕ) (ramp : Limits) → LimitsReady ramp → LimitsReady (limits_in (Called class seconds ramp) x)
  unfolding limits_in
  call_limits class seconds ramp q = first_ready (first_in class seconds) ramp q

  flagged_limits : (p : Stage) → StageReady p → LimitsReady (limits_in (flagged_in p s.before x) x)
  unfolding flagged_in begun_in
  flagged_limits Blank q = call_limits _ _ _ begun_ready
  flagged_limits Holding q = call_limits _ _ _ begun_ready
  flagged_limits (Called class seconds ramp) q = call_limits _ _ _ q
  flagged_limits (Returning since ramp) q = call_limits _ _ _ begun_ready

  -- and in none
  over_limits : (b : Bool) (k : ℕ) (l : Limits) → LimitsReady l → (holding_in (cond b (Returning k l) Holding) ≡ true → PointIn x) → LimitsReady (limits_in (cond b (Returning k l) Holding) x)
  unfolding limits_in holding_in
  over_limits true k l q p = q
  over_limits false k l q p = holding_ready x f (p refl)

  unflagged_limits : (p : Stage) → StageReady p → (holding_in (unflagged_in p) ≡ true → PointIn x) → LimitsReady (limits_in (unflagged_in p) x)
  unfolding unflagged_in limits_in holding_in
  unflagged_limits Blank q p = holding_ready x f (p refl)
  unflagged_limits Holding q p = holding_ready x f (p refl)
  unflagged_limits (Called class seconds ramp) q p = over_limits (ltb seconds hour) 1 ramp q p
  unflagged_limits (Returning since ramp) q p = over_limits (ltb since quarter_hour) (since + 1) ramp q p

  limits_ready : (holds_in s x ≡ true → PointIn x) → LimitsReady (limits_in (stage_in s x) x)
  unfolding stage_in holds_in
  limits_ready p = go (flagged x) p
    where
      go : (b : Bool) → ((not b && holding_in (unflagged_in s.stage)) ≡ true → PointIn x) → LimitsReady (limits_in (cond b (flagged_in s.stage s.before x) (unflagged_in s.stage)) x)
      go true p = flagged_limits s.stage r.stage_ready
      go false p = unflagged_limits s.stage r.stage_ready p

  module _ (z : refusal_in s x ≡ 0) where
    now_ready : LimitsReady (limits_on x (limits_in (stage_in s x) x))
    unfolding limits_on refusal_in
    now_ready = go (is_on x) refl
      where
        go : (b : Bool) → is_on x ≡ b → LimitsReady (cond b (widened (setpoint_of x) (limits_in (stage_in s x) x)) none)
        go true o = widened_ready x f _ (limits_ready (point x _ _ z o))
        go false o = none_ready

    pub small : Within lower_most (published_of per_kw (limits_on x (limits_in (stage_in s x) x))).low.0 × Within upper_most (published_of per_kw (limits_on x (limits_in (stage_in s x) x))).high.0
    small = (lower_within per_kw (lit< tt) lower_most _ now_ready.lower_range, upper_within per_kw (lit< tt) upper_most _ now_ready.upper_range)

    pub published_fits : SFits w32 (published_of per_kw (limits_on x (limits_in (stage_in s x) x))).low.0 × SFits w32 (published_of per_kw (limits_on x (limits_in (stage_in s x) x))).high.0
    published_fits = let g = small in (search fit, search fit)
