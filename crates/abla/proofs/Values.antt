-- The values hold, by computing. Assumes nothing.
use Rattle.std.proofs.Common.{refl}
use Rattle.numbers.specs.Bounds.{outside}
use Rattle.numbers.specs.Order.{max_z, min_z}
use Rattle.power.specs.Inward.{upper_kw, lower_kw}
use Rattle.abla.specs.Calls.{is_on, flagged, is_quick, flagged_last, no_call, begun, longer, latest, since, in_first, in_return}
use Rattle.abla.specs.Band.{lowest_point, holding_lower, holding, called_upper, called, lower_of, lower_before, ramp_of, returning, holds, stage_limits, widened, none, limits_on, limits_at}
use Rattle.abla.specs.Refusals.{filled, fields_out, point_out, called_out, signal_out, load_rules, is_blank, refusal}
use Rattle.abla.specs.Values.{Values}

pub values : Values
unfolding max_z min_z upper_kw lower_kw is_on flagged is_quick flagged_last no_call begun longer latest since in_first in_return lowest_point holding_lower holding called_upper called lower_of lower_before ramp_of returning holds stage_limits widened none limits_on limits_at outside filled fields_out point_out called_out signal_out load_rules is_blank refusal
values = assumption refl
