-- What a second that is not refused meets. Assumes nothing.
use Rattle.std.proofs.Common.{◌≡◌, refl, Bool, true, false, cond, not, ◌&&◌, ℕ, arith, ltb, ℤ, pos, neg_ℤ, ◌≤ℤ◌}
use Rattle.std.specs.Int.Signed.{lt_z}
use Rattle.numbers.specs.Bounds.{Within, outside}
use Rattle.numbers.specs.Rules.{first, differ}
use Rattle.numbers.proofs.Parts.{between, shows}
use Rattle.numbers.proofs.Fit.{fit}
use Rattle.numbers.proofs.Test.{or_false, flags, not_outside}
use Rattle.numbers.proofs.Rules.{none}
use Rattle.power.specs.Units.{most_reserve, in_grains}
use Rattle.abla.specs.declared.load.LoadSecond.{LoadSecond}
use Rattle.abla.specs.Calls.{is_on, flagged}
use Rattle.abla.specs.Band.{per_kw, setpoint_of, lowest_point}
use Rattle.abla.specs.Refusals.{most_power, nonzero, filled, fields_out, point_out, called_out, signal_out, load_rules}
use Rattle.abla.specs.State.{Fields, Fair, PointIn}

-- ---- numbers in a range

not_below_0 : (B : ℕ) (z : ℤ) → outside (pos 0) (pos B) z ≡ false → Within B z
unfolding outside
not_below_0 B z h =
    let p = or_false (lt_z z (pos 0)) (lt_z (pos B) z) h in
    between (omega (arith, flags)) (omega (arith, flags))

sign_in : (B : ℕ) (z : ℤ) → outside (pos 0) (pos B) z ≡ false → pos 0 ≤ℤ z
unfolding outside
sign_in B z h =
    let p = or_false (lt_z z (pos 0)) (lt_z (pos B) z) h in
    omega (arith, shows, flags)

is_zero : (z : ℤ) → nonzero z ≡ false → z ≡ pos 0
unfolding outside
is_zero z h =
    let p = or_false (lt_z z (pos 0)) (lt_z (pos 0) z) h in
    omega (arith, shows, flags)

-- ---- 31

module _ (x : LoadSecond) where
  -- its five parts
  unfoldable Parts : Type 0
  Parts =
      (outside (pos 0) (pos most_reserve) x.awarded.0 ≡ false)
      × (outside (neg_ℤ (pos most_power)) (pos most_power) x.minimum.0 ≡ false)
      × ((not (is_on x) && filled x) ≡ false)

  parts : fields_out x ≡ false → Parts
  unfolding fields_out Parts
  parts h =
      let a = or_false (outside (pos 0) (pos most_reserve) x.awarded.0) _ h in
      let b = or_false (outside (neg_ℤ (pos most_power)) (pos most_power) x.minimum.0) _ a.1 in
      let d = or_false (ltb 1 x.class) _ b.1 in
      let e = or_false (ltb 1 x.flag) _ d.1 in
      (a.0, b.0, e.1)

  pub fields_in : fields_out x ≡ false → Fields x
  unfolding Parts
  fields_in h =
      let p = parts h in
      record { minimum_range = not_outside most_power _ p.1; awarded_range = not_below_0 most_reserve _ p.0 }

  empty : filled x ≡ false → setpoint_of x ≡ pos 0
  unfolding filled
  empty h =
      let a = or_false (nonzero x.minimum.0) _ h in
      let b = or_false (differ x.class 0) _ a.1 in
      let d = or_false (differ x.flag 0) _ b.1 in
      is_zero (setpoint_of x) d.1

  off_empty : fields_out x ≡ false → is_on x ≡ false → setpoint_of x ≡ pos 0
  unfolding Parts
  off_empty h o = empty (rw o at (parts h).2)

  -- ---- 32

  point_in : (holding : Bool) → point_out holding x ≡ false → is_on x ≡ true → holding ≡ true → PointIn x
  unfolding point_out outside
  point_in holding h o q =
      let p = or_false (lt_z (in_grains per_kw x.working.0) (lowest_point x)) _ (rw (o, q) at h) in
      record { above = omega (arith, shows, flags); below = omega (arith, shows, flags) }

  -- ---- 33

  unflagged_empty : (blank : Bool) → signal_out blank x ≡ false → flagged x ≡ false → setpoint_of x ≡ pos 0
  unfolding signal_out
  unflagged_empty blank h e = is_zero (setpoint_of x) (rw e at h)

  unfoldable InRange : ℤ → Type 0
  InRange s = Within most_reserve s × (pos 0 ≤ℤ s)

  setpoint_in_lem : (blank : Bool) → signal_out blank x ≡ false → InRange (setpoint_of x)
  unfolding signal_out called_out InRange
  setpoint_in_lem blank h = go (flagged x) h
    where
      go : (f : Bool) → cond f (called_out blank (setpoint_of x)) (nonzero (setpoint_of x)) ≡ false → Within most_reserve (setpoint_of x) × (pos 0 ≤ℤ setpoint_of x)
      go true q = let p = (or_false blank _ q).1 in (not_below_0 most_reserve _ p, sign_in most_reserve _ p)
      go false q = rw (is_zero (setpoint_of x) q) (search fit, omega (arith, shows))

  -- ---- all three

  module _ (blank holding : Bool) (z : first (load_rules blank holding x) ≡ 0) where
    unfoldable Passed : Type 0
    Passed = (fields_out x ≡ false) × (point_out holding x ≡ false) × (signal_out blank x ≡ false)

    passed : Passed
    unfolding load_rules Passed
    passed = let n = none (load_rules blank holding x) refl z in (n.0, n.1.0, n.1.1.0)

    pub fair : Within most_power x.working.0 → Fair x
    unfolding Passed InRange
    fair w =
        let s = setpoint_in_lem blank passed.2 in
        record { fields = fields_in passed.0; setpoint_range = s.0; setpoint_sign = s.1; working_range = w }

    pub point : is_on x ≡ true → holding ≡ true → PointIn x
    unfolding Passed
    point o q = point_in holding passed.1 o q

    pub off_zero : is_on x ≡ false → setpoint_of x ≡ pos 0
    unfolding Passed
    off_zero o = off_empty passed.0 o

    pub uncalled_zero : flagged x ≡ false → setpoint_of x ≡ pos 0
    unfolding Passed
    uncalled_zero e = unflagged_empty blank passed.2 e
