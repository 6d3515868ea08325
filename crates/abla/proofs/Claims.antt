-- The claims hold. Assumes nothing.
use Rattle.power.proofs.Inside.{published_contains}
use Rattle.std.proofs.Common.{◌≡◌, refl, ℕ, zero, suc, ◌*◌, ◌/◌, arith, true, false, lit<, ℤ, pos, ◌*ℤ◌}
use Rattle.refusals.specs.Refusals.{Refused}
use Rattle.power.specs.declared.kilowatts.Kw.{Kw}
use Rattle.power.specs.Units.{kw, in_grains}
use Rattle.power.specs.Inward.{upper_kw, lower_kw, Contains}
use Rattle.numbers.specs.Bounds.{outside}
use Rattle.numbers.proofs.Parts.{shows, mul_nat}
use Rattle.abla.specs.declared.load.LoadSecond.{LoadSecond}
use Rattle.abla.specs.declared.AblaState.{AblaState}
use Rattle.abla.specs.Calls.{History, off, is_on, flagged}
use Rattle.abla.specs.Band.{per_kw, fifth_of, setpoint_of, stage_limits, none, limits_on, limits_at, band_at}
use Rattle.abla.specs.Refusals.{filled, fields_out, point_out, signal_out, load_rules, refusal}
use Rattle.abla.specs.State.{AblaStep, given_value, refusal_in, accepted_in, step_by, step_in}
use Rattle.abla.specs.Claims.{Claims}
use Rattle.abla.proofs.Runs.{latest_run, no_run}
use Rattle.abla.proofs.Rules.{off_zero, uncalled_zero}
use Rattle.abla.proofs.Inside as inside
use Rattle.abla.proofs.Exact.{holding_exact, called_exact}
use Rattle.abla.proofs.Past.{follows, rules, number, setpoint, band}
use Rattle.abla.proofs.Steps.{never, ready, range}

module _ (h : History) (x : LoadSecond) where
  contains : is_on x ≡ true → Contains per_kw (limits_at h x) (setpoint_of x)
  unfolding limits_at
  contains o = inside.on_contains x (stage_limits h x) o

  off_band : is_on x ≡ false → band_at h x ≡ record { low = kw (pos 0); high = kw (pos 0) }
  unfolding limits_at
  off_band o = inside.off_band x (stage_limits h x) o

  off_setpoint : refusal h x ≡ 0 → is_on x ≡ false → setpoint_of x ≡ pos 0
  unfolding refusal
  off_setpoint z o = off_zero x _ _ z o

  no_call_lem : refusal h x ≡ 0 → flagged x ≡ false → setpoint_of x ≡ pos 0
  unfolding refusal
  no_call_lem z f = uncalled_zero x _ _ z f

off_accepted : (h : History) (w : Kw) → refusal h (off w) ≡ 0
unfolding refusal load_rules fields_out point_out signal_out filled outside is_on flagged
off_accepted h w = refl

off_given : (s : AblaState) (w : Kw) → (step_in s (off w)).answer ≡ given_value (kw (pos 0)) (record { low = kw (pos 0); high = kw (pos 0) })
unfolding step_in step_by refusal_in accepted_in load_rules fields_out point_out signal_out filled outside is_on flagged limits_on none upper_kw lower_kw
off_given s w = refl

fifth_exact : (z : ℤ) → fifth_of z *ℤ pos 5 ≡ in_grains per_kw z
fifth_exact z = omega (arith, shows, mul_nat (fifth_of z) 5, mul_nat z (per_kw * 20 / 100), mul_nat z per_kw)

-- by its number: an accepted second is not refused
by_number : (k : ℕ) (old : AblaState) (new : AblaStep) {n : ℕ} → (new.answer ≡ Refused n → ⊥) → (step_by k old new).answer ≡ Refused n → (step_by k old new).state ≡ old
unfolding step_by
by_number zero old new f e = absurd (f e)
by_number (suc k) old new f e = refl

unchanged : (s : AblaState) (x : LoadSecond) {n : ℕ} → (step_in s x).answer ≡ Refused n → (step_in s x).state ≡ s
unfolding step_in
unchanged s x e = by_number (refusal_in s x) s (accepted_in s x) (never s x) e

pub claims : Claims
claims =
    record {
      latest_run = latest_run;
      no_run = no_run;
      fifth_exact = fifth_exact;
      contains = contains;
      published = λ h x o. published_contains per_kw (lit< tt) (limits_at h x) (setpoint_of x) (contains h x o);
      off_band = off_band;
      off_setpoint = off_setpoint;
      off_accepted = off_accepted;
      off_given = off_given;
      no_call_lem = no_call_lem;
      holding_exact = holding_exact;
      called_exact = called_exact;
      follows = follows;
      rules = rules;
      unchanged = unchanged;
      number = number;
      setpoint = setpoint;
      band = band;
      ready = ready;
      range = range;
    }
