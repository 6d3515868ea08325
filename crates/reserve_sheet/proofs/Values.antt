-- The values hold, by computing. Assumes nothing.
use Rattle.std.proofs.Common.{refl}
use Rattle.numbers.specs.Bounds.{outside}
use Rattle.codec.specs.Little.{twos_complement}
use Rattle.sheet.specs.Sheet.{default_sheet, percent_out, range_out, fcr_reaction_out, afrr_reaction_out, sheet_number}
use Rattle.reserve_sheet.specs.Form.{sheet_of, spare_set, figure_out, form_number}
use Rattle.reserve_sheet.specs.Values.{Values}

pub values : Values
unfolding outside twos_complement default_sheet percent_out range_out fcr_reaction_out afrr_reaction_out sheet_number sheet_of spare_set figure_out form_number
values = assumption refl
