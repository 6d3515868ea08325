-- Outside the ramps a band needs no widening. Assumes nothing.
use Rattle.std.proofs.Common.{◌≡◌, ◌*◌, ◌/◌, true, false, not, ◌∷◌, arith, ℤ, pos, ◌+ℤ◌, ◌-ℤ◌, ◌≤ℤ◌}
use Rattle.std.proofs.lemmas.Bool.{not-true}
use Rattle.std.specs.Int.Signed.{lt_z}
use Rattle.numbers.specs.Order.{max_z, min_z}
use Rattle.numbers.proofs.Parts.{reads, shows, add_nat, sub_nat, mul_nat, one_nat}
use Rattle.numbers.proofs.Order.{max_nat, min_nat}
use Rattle.numbers.proofs.Rules.{both_true}
use Rattle.numbers.proofs.Test.{flags}
use Rattle.power.specs.declared.limits.Limits.{Limits}
use Rattle.power.specs.Units.{in_grains}
use Rattle.power.specs.Inward.{Contains}
use Rattle.abla.specs.declared.load.LoadSecond.{LoadSecond}
use Rattle.abla.specs.Calls.{History, is_on, flagged, latest, in_first}
use Rattle.abla.specs.Band.{per_kw, fifth_of, setpoint_of, holding_lower, holding, called_upper, called, returning, holds, stage_limits, widened, limits_on, limits_at}
use Rattle.abla.specs.Refusals.{refusal}
use Rattle.abla.specs.State.{PointIn}
use Rattle.abla.proofs.Rules.{point, uncalled_zero}

min_same : (a b : ℤ) → a ≤ℤ b → min_z a b ≡ a
min_same a b h = omega (arith, reads, shows, min_nat a b, one_nat a, one_nat b)

max_same : (a b : ℤ) → b ≤ℤ a → max_z a b ≡ a
max_same a b h = omega (arith, reads, shows, max_nat a b, one_nat a, one_nat b)

widened_same : (s : ℤ) (l : Limits) → Contains per_kw l s → widened s l ≡ l
unfolding widened
widened_same s l i =
    rw (min_same l.lower.0 (in_grains per_kw s) i.above, max_same l.upper.0 (in_grains per_kw s) i.below)

not_above_0 : (a b : ℤ) → a ≤ℤ b → (a -ℤ b) ≤ℤ pos 0
not_above_0 a b h = omega (arith, reads, shows, sub_nat a b)

not_below_0 : (a b : ℤ) → b ≤ℤ a → pos 0 ≤ℤ (a -ℤ b)
not_below_0 a b h = omega (arith, reads, shows, sub_nat a b)

more : (a z : ℤ) → lt_z (pos 0) z ≡ true → a ≤ℤ (a +ℤ fifth_of z)
more a z h = omega (arith, flags, shows, add_nat a (fifth_of z), mul_nat z (per_kw * 20 / 100))

itself : (a : ℤ) → a ≤ℤ a
itself a = omega (arith, shows)

module _ (x : LoadSecond) where
  holding_contains : PointIn x → Contains per_kw (holding x) (pos 0)
  unfolding holding holding_lower
  holding_contains p = record { above = not_above_0 _ _ p.above; below = not_below_0 _ _ p.below }

  called_contains : is_on x ≡ true → Contains per_kw (called x) (setpoint_of x)
  unfolding called called_upper is_on
  called_contains o = record { above = itself _; below = more _ x.awarded.0 o }

  given_same : (l : Limits) → is_on x ≡ true → Contains per_kw l (setpoint_of x) → limits_on x l ≡ l
  unfolding limits_on
  given_same l o i = rw o (widened_same (setpoint_of x) l i)

module _ (h : History) (x : LoadSecond) (o : is_on x ≡ true) where
  holding_stage : flagged x ≡ false → returning (x ∷ h) ≡ false → stage_limits h x ≡ holding x
  unfolding stage_limits
  holding_stage f r = rw (f, r)

  called_stage : flagged x ≡ true → in_first (latest (x ∷ h)) ≡ false → stage_limits h x ≡ called x
  unfolding stage_limits
  called_stage f r = rw (f, r)

  pub called_exact : flagged x ≡ true → in_first (latest (x ∷ h)) ≡ false → limits_at h x ≡ called x
  unfolding limits_at
  called_exact f r = rw (called_stage f r) (given_same x (called x) o (called_contains x o))

  pub holding_exact : refusal h x ≡ 0 → holds h x ≡ true → limits_at h x ≡ holding x
  unfolding limits_at holds refusal
  holding_exact z q =
      let b = both_true (not (flagged x)) (not (returning (x ∷ h))) q in
      let f = not-true (flagged x) b.0 in
      let c = rw (← uncalled_zero x _ _ z f) at (holding_contains x (point x _ _ z o q)) in
      rw (holding_stage f (not-true (returning (x ∷ h)) b.1)) (given_same x (holding x) o c)
