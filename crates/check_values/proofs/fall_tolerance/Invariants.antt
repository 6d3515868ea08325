-- The last step answered as the definitions say after that many seconds.
use Rattle.std.proofs.Common.{◌≡◌, ◌∷◌, pos, replicate}
use Rattle.numbers.specs.Bounds.{Within}
use Rattle.power.specs.Units.{kw}
use Rattle.fcr.specs.Band.{band_at}
use Rattle.fcr.specs.State.{most_limit, state_of, FcrStep, Ready}
use Rattle.check_values.proofs.fall_tolerance.Given as goal

abbrev pub invariant-loop : goal.invariant-loop
invariant-loop l =
    record {
      ready : Ready l.state;
      small : Within most_limit l.band.high.0;
      answered : ◌≡◌ {A = FcrStep} (record { band = l.band; state = l.state }) (record { band = band_at l.sheet.figures (replicate l.counter l.s) l.s (kw (pos 400)); state = state_of (l.s ∷ replicate l.counter l.s) });
    }
