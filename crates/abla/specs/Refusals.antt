-- When a load's second is turned down (02, W10): 31, 32 and 33, in order.
use Rattle.std.specs.Prelude.{◌≡◌, ℕ, Bool, true, false, cond, not, ◌&&◌, ◌||◌, List, [], ◌∷◌, ltb, ℤ, pos, neg_ℤ}
use Rattle.numbers.specs.Bounds.{Within, outside}
use Rattle.numbers.specs.Rules.{Rule, refuse, first, differ}
use Rattle.power.specs.Units.{most_reserve, in_grains}
use Rattle.abla.specs.declared.load.LoadSecond.{LoadSecond}
use Rattle.abla.specs.Calls.{History, is_on, flagged}
use Rattle.abla.specs.Band.{per_kw, setpoint_of, lowest_point, holds}

-- the largest minimum consumption and working point in kW, either way
abbrev pub most_power : ℕ
most_power = 4000000

-- not 0
abbrev pub nonzero : ℤ → Bool
nonzero z = outside (pos 0) (pos 0) z

-- one of the fields other than z isn't 0
unfoldable pub filled : LoadSecond → Bool
filled x =
    nonzero x.minimum.0 || (differ x.class 0 || (differ x.flag 0 || nonzero (setpoint_of x)))

-- 31: "z is outside 0 to 1,000,000, m outside ±4,000,000, class or flag above 1, or z is 0 and another of the fields isn't"
unfoldable pub fields_out : LoadSecond → Bool
fields_out x =
    outside (pos 0) (pos most_reserve) x.awarded.0
    || (outside (neg_ℤ (pos most_power)) (pos most_power) x.minimum.0
    || (ltb 1 x.class
    || (ltb 1 x.flag
    || (not (is_on x) && filled x))))

-- 32: "z is above 0, there is no call and no return ramp, and the working point is outside m - 0.2 × z to m"
unfoldable pub point_out : Bool → LoadSecond → Bool
point_out holding x =
    is_on x && (holding && outside (lowest_point x) (in_grains per_kw x.minimum.0) (in_grains per_kw x.working.0))

-- 33: "a call flag comes in the unit's first second from a blank state, a called setpoint is outside 0 to 1,000,000, or a setpoint not 0
-- stands without a call"
unfoldable pub called_out : Bool → ℤ → Bool
called_out blank s = blank || outside (pos 0) (pos most_reserve) s

unfoldable pub signal_out : Bool → LoadSecond → Bool
signal_out blank x = cond (flagged x) (called_out blank (setpoint_of x)) (nonzero (setpoint_of x))

-- `blank` and `holding` say of the load that no second was accepted yet, and that it neither is called nor returns in this one
unfoldable pub load_rules : Bool → Bool → LoadSecond → List Rule
load_rules blank holding x =
    refuse 31 (fields_out x)
    ∷ refuse 32 (point_out holding x)
    ∷ refuse 33 (signal_out blank x)
    ∷ []

-- no second was accepted yet
unfoldable pub is_blank : History → Bool
is_blank [] = true
is_blank (x ∷ h) = false

-- the rules for second x after the past h
abbrev pub rules_at : History → LoadSecond → List Rule
rules_at h x = load_rules (is_blank h) (holds h x) x

-- its number; 0 where it is accepted
unfoldable pub refusal : History → LoadSecond → ℕ
refusal h x = first (rules_at h x)

-- every second of a history was accepted after those before it; refusal 4 keeps the working point in its range
unfoldable pub Accepted : History → Type 0
Accepted [] = Unit
Accepted (x ∷ h) = (refusal h x ≡ 0) × Within most_power x.working.0 × Accepted h
