-- A call with a multiple of 900 seconds before it, its delivery end as much later. Assumes nothing.
use Rattle.std.proofs.Common.{◌≡◌, refl, ℕ, ◌+◌, ◌-◌, ◌%◌, arith}
use Rattle.sheet.specs.declared.Sheet.{Sheet}
use Rattle.std.proofs.lemmas.Bool.Decides.{nat_tests}
use Rattle.mfrr.specs.declared.MfrrState.{MfrrState}
use Rattle.mfrr.specs.Signal.{quarter_hour, MfrrSecond, quiet, call, moved_on, History}
use Rattle.mfrr.specs.Refusals.{end_out, call_rules, rules_at}
use Rattle.mfrr.specs.State.{number_of, refusal_in, called_in, taken_in, step_in}

module _ (n t : ℕ) (whole : n % quarter_hour ≡ 0) where
  end_moved : (D : ℕ) → end_out (t + n) (D + n) ≡ end_out t D
  unfolding end_out
  end_moved D =
      let multiple : (D + n) % quarter_hour ≡ D % quarter_hour = omega (arith, whole) in
      rw multiple (grind (arith, nat_tests))

  left_moved : (D : ℕ) → (D + n) - (t + n) ≡ D - t
  left_moved D = omega arith

  pub moved_number : (h : History) (x : MfrrSecond) → rules_at (t + n) h (moved_on n x) ≡ rules_at t h x
  unfolding rules_at call_rules
  moved_number h quiet = refl
  moved_number h (call e D) = rw (end_moved D)

  pub moved_step : (sh : Sheet) (s : MfrrState) (x : MfrrSecond) → step_in sh s (t + n) (moved_on n x) ≡ step_in sh s t x
  unfolding step_in refusal_in number_of call_rules taken_in called_in
  moved_step sh s quiet = refl
  moved_step sh s (call e D) = rw (end_moved D, left_moved D)
