-- Sums of limits fit their type. Assumes nothing.
use Rattle.std.proofs.Common.{◌+ℤ◌, ◌-ℤ◌, w64, SFits}
use Rattle.numbers.proofs.Fit.{fit}
use Rattle.power.specs.Units.{in_grains}
use Rattle.abla.specs.declared.load.LoadSecond.{LoadSecond}
use Rattle.abla.specs.Band.{per_kw, fifth_of, lowest_point}
use Rattle.abla.specs.State.{Fields, Fair}

module _ (x : LoadSecond) where
  pub lowest_fits : Fields x → SFits w64 (in_grains per_kw x.minimum.0 -ℤ fifth_of x.awarded.0)
  lowest_fits f = search fit depth 9

  pub lower_fits : Fair x → SFits w64 (lowest_point x -ℤ in_grains per_kw x.working.0)
  unfolding lowest_point
  lower_fits f = search fit depth 9

  pub upper_fits : Fair x → SFits w64 (in_grains per_kw x.minimum.0 -ℤ in_grains per_kw x.working.0)
  upper_fits f = search fit depth 9

  pub called_fits : Fair x → SFits w64 (in_grains per_kw x.setpoint.0 +ℤ fifth_of x.awarded.0)
  called_fits f = search fit depth 9
