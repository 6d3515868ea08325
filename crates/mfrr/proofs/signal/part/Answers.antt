-- The product and the quotient fit, so that what is read back of each is itself.
use Rattle.std.proofs.Common.{ℕ, ◌*◌, ◌≤◌, ℤ, pos, ◌*ℤ◌, w32, w64, SFits}
use Rattle.std.specs.Int.Signed.{quot_z}
use Rattle.numbers.specs.Bounds.{Within}
use Rattle.numbers.proofs.Fit.{fit}
use Rattle.numbers.proofs.Read.{is, same, carry}
use Rattle.power.specs.Units.{most_reserve}
use Rattle.mfrr.specs.Signal.{quarter_hour, ramp_part}
use Rattle.mfrr.proofs.signal.part.Goals as goal

record Bounded (d : ℤ) (k : ℕ) : Type 0 where
  pub product : SFits w64 (d *ℤ pos k)
  pub wide : SFits w64 (quot_z (d *ℤ pos k) (pos quarter_hour))
  pub narrow : SFits w32 (quot_z (d *ℤ pos k) (pos quarter_hour))

bounded : (d : ℤ) (k : ℕ) → Within (2 * most_reserve) d → k ≤ quarter_hour → Bounded d k
bounded d k w h =
    let f : Within quarter_hour (pos k) = record { within = h } in
    record { product = search fit depth 9; wide = search fit depth 9; narrow = search fit depth 9 }

pub overflow_cast-result : goal.overflow_cast-result
overflow_cast-result c =
    let b = bounded c.args.d.0 c.args.k c.requires.0 c.requires.1 in
    rw (c.from.ensures, c.from-2.ensures) (carry b.narrow (search is depth 16))

pub returns : goal.returns
unfolding ramp_part
returns c =
    let b = bounded c.args.d.0 c.args.k c.requires.0 c.requires.1 in
    rw (c.from.ensures, c.from-2.ensures) (search same depth 16)
