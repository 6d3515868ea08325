-- The sums are those of the ages passed, in parts of the whole FCR time, and `sj` is the setpoint at this age.
use Rattle.std.proofs.Common.{◌≡◌, ◌∷◌, pos, get_or}
use Rattle.power.specs.Units.{kw}
use Rattle.fcr.specs.Band.{fallen, risen, sum_to, aged}
use Rattle.fcr.proofs.Weighing.{weighed}
use Rattle.fcr.proofs.weigh_all.Given as goal

abbrev pub invariant-loop-age : goal.invariant-loop-age
invariant-loop-age l =
    record {
      at_age : l.sj ≡ get_or (l.s ∷ l.past) l.age (kw (pos 0));
      falls : l.falls.0 ≡ sum_to l.age (aged (weighed l.sheet.figures fallen) (l.s ∷ l.past));
      rises : l.rises.0 ≡ sum_to l.age (aged (weighed l.sheet.figures risen) (l.s ∷ l.past));
    }
