-- The values hold, by computing. Assumes nothing.
use Rattle.std.proofs.Common.{refl}
use Rattle.numbers.specs.Bounds.{outside}
use Rattle.sheet.specs.Sheet.{default_sheet, percent_out, range_out, fcr_reaction_out, afrr_reaction_out, sheet_number, per_kw}
use Rattle.sheet.specs.Values.{Values}

pub values : Values
unfolding default_sheet percent_out range_out fcr_reaction_out afrr_reaction_out sheet_number per_kw outside
values = assumption refl
