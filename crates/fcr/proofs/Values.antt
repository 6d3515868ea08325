-- The values hold, by computing. Assumes nothing.
use Rattle.std.proofs.Common.{refl}
use Rattle.numbers.specs.Order.{max_z}
use Rattle.power.specs.Inward.{upper_kw}
use Rattle.sheet.specs.Sheet.{first_figures, per_kw}
use Rattle.fcr.specs.Setpoint.{setpoint_of}
use Rattle.fcr.specs.Factor.{weight_factor}
use Rattle.fcr.specs.Band.{weight, fallen, fall_of, sum_to, limits_at}
use Rattle.fcr.specs.Values.{Marked, Values}

pub marked : Marked
unfolding setpoint_of weight_factor first_figures per_kw weight fallen fall_of sum_to limits_at upper_kw max_z
marked = assumption refl

pub values : Values
unfolding setpoint_of weight_factor first_figures per_kw weight fallen fall_of sum_to limits_at upper_kw max_z
values = assumption (refl, marked)
