-- The band of a load that is on contains its setpoint; that of one that is off is 0. Assumes nothing.
use Rattle.std.proofs.Common.{◌≡◌, refl, Bool, true, false, arith, lit<, ℤ, pos}
use Rattle.numbers.proofs.Parts.{shows}
use Rattle.numbers.proofs.Order.{max_nat, min_nat}
use Rattle.power.specs.declared.limits.Limits.{Limits}
use Rattle.power.specs.Units.{kw, in_grains}
use Rattle.power.specs.Inward.{upper_kw, lower_kw, published_of, Contains, Published}
use Rattle.power.proofs.Inside.{published_contains}
use Rattle.abla.specs.declared.load.LoadSecond.{LoadSecond}
use Rattle.abla.specs.Calls.{is_on}
use Rattle.abla.specs.Band.{per_kw, setpoint_of, widened, none, limits_on}

widened_holds : (s : ℤ) (l : Limits) → Contains per_kw (widened s l) s
unfolding widened
widened_holds s l =
    record {
      above = omega (arith, shows, min_nat l.lower.0 (in_grains per_kw s));
      below = omega (arith, shows, max_nat l.upper.0 (in_grains per_kw s));
    }

module _ (x : LoadSecond) (l : Limits) where
  pub on_contains : is_on x ≡ true → Contains per_kw (limits_on x l) (setpoint_of x)
  unfolding limits_on
  on_contains o = rw o (widened_holds (setpoint_of x) l)

  pub off_none : is_on x ≡ false → limits_on x l ≡ none
  unfolding limits_on
  off_none o = rw o

  pub off_band : is_on x ≡ false → published_of per_kw (limits_on x l) ≡ record { low = kw (pos 0); high = kw (pos 0) }
  unfolding none upper_kw lower_kw
  off_band o = rw (off_none o)

  off_contains : is_on x ≡ false → setpoint_of x ≡ pos 0 → Published (published_of per_kw (limits_on x l)) (setpoint_of x)
  off_contains o z = rw (off_band o, z) (record { above = omega (arith, shows); below = omega (arith, shows) })

  pub contains : (is_on x ≡ false → setpoint_of x ≡ pos 0) → Published (published_of per_kw (limits_on x l)) (setpoint_of x)
  contains z = go (is_on x) refl
    where
      go : (b : Bool) → is_on x ≡ b → Published (published_of per_kw (limits_on x l)) (setpoint_of x)
      go true o = published_contains per_kw (lit< tt) (limits_on x l) (setpoint_of x) (on_contains o)
      go false o = off_contains o (z o)
