-- A deviation is itself, and a failed reading isn't within its range.
use Rattle.std.proofs.Common.{refl, sym, subst, T}
use Rattle.meters.specs.Meters.{fair_reading, exact_deviation}
use Rattle.meters.proofs.deviation.of_reading.Goals as goal

pub returns-in-Deviation : goal.returns-in-Deviation
unfolding exact_deviation
returns-in-Deviation c = rw c.in-Deviation.is (record { fair = rw c.in-Deviation.is at c.requires; is = refl })

pub returns-in-Failed : goal.returns-in-Failed
unfolding fair_reading
returns-in-Failed c = absurd (subst T (sym (rw c.in-Failed.is at c.requires)) tt)
