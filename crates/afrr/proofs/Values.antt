-- The values hold, by computing. Assumes nothing.
use Rattle.std.proofs.Common.{refl}
use Rattle.numbers.specs.Order.{max_z, min_z}
use Rattle.power.specs.Inward.{upper_kw, lower_kw}
use Rattle.power.specs.Past.{newest}
use Rattle.sheet.specs.Sheet.{default_sheet, first_figures, per_kw}
use Rattle.afrr.specs.Band.{largest, smallest, gradient_by, held_of, next_upper, next_lower, limits_by, last_limits}
use Rattle.afrr.specs.Values.{FirstValues, FigureValues, OneValues, SixtyValues, Values}

first : FirstValues
unfolding max_z min_z upper_kw lower_kw newest first_figures per_kw largest smallest gradient_by held_of next_upper next_lower limits_by last_limits
first = assumption refl

figures : FigureValues
unfolding max_z min_z upper_kw lower_kw newest default_sheet per_kw largest smallest gradient_by held_of next_upper next_lower limits_by last_limits
figures = assumption refl

one : OneValues
unfolding max_z min_z upper_kw lower_kw newest per_kw largest smallest gradient_by held_of next_upper next_lower limits_by last_limits
one = assumption refl

sixty : SixtyValues
unfolding max_z min_z upper_kw lower_kw newest per_kw largest smallest gradient_by held_of next_upper next_lower limits_by last_limits
sixty = assumption refl

pub values : Values
values = record { first = first; figures = figures; one = one; sixty = sixty }
