-- The last step answered as the definitions say after that many seconds.
use Rattle.std.proofs.Common.{◌≡◌, ◌∷◌, replicate}
use Rattle.afrr.specs.Band.{band_at}
use Rattle.afrr.specs.State.{state_of, AfrrStep, Ready}
use Rattle.check_values.proofs.lower_limit.Given as goal

abbrev pub invariant-loop : goal.invariant-loop
invariant-loop l =
    record {
      ready : Ready l.sheet.figures l.state;
      answered : ◌≡◌ {A = AfrrStep} (record { band = l.band; state = l.state }) (record { band = band_at l.sheet.figures (replicate l.counter l.x) l.x; state = state_of l.sheet.figures (l.x ∷ replicate l.counter l.x) });
    }
