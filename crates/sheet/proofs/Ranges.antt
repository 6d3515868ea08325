-- 30 is given exactly where a figure is outside its range. Assumes nothing.
use Rattle.std.proofs.Common.{◌≡◌, refl, arith}
use Rattle.std.proofs.lemmas.Int.{ints}
use Rattle.std.proofs.lemmas.Bool.Decides.{nat_tests}
use Rattle.numbers.specs.Bounds.{outside}
use Rattle.sheet.specs.declared.Sheet.{Sheet}
use Rattle.sheet.specs.Sheet.{default_sheet, first_figures, percent_out, range_out, fcr_reaction_out, afrr_reaction_out, sheet_number, InRange}

pub in_range : (sh : Sheet) → sheet_number sh ≡ 0 → InRange sh
unfolding sheet_number percent_out range_out fcr_reaction_out afrr_reaction_out outside
in_range sh e =
    record {
      fcr_floor_is = grind (arith, nat_tests);
      afrr_floor_is = grind (arith, nat_tests);
      excess = grind (arith, nat_tests);
      least_some = grind (arith, ints);
      least_most = record { within = grind (arith, ints) };
      fcr_least = grind (arith, nat_tests);
      fcr_most = grind (arith, nat_tests);
      afrr_least = grind (arith, nat_tests);
      afrr_most = grind (arith, nat_tests);
    }

pub ranged : (sh : Sheet) → InRange sh → sheet_number sh ≡ 0
unfolding sheet_number percent_out range_out fcr_reaction_out afrr_reaction_out outside
ranged sh r = grind (arith, ints, nat_tests)

pub default_in_range : InRange default_sheet
unfolding default_sheet sheet_number percent_out range_out fcr_reaction_out afrr_reaction_out outside
default_in_range = in_range default_sheet refl

pub first_in_range : InRange first_figures
unfolding first_figures sheet_number percent_out range_out fcr_reaction_out afrr_reaction_out outside
first_in_range = in_range first_figures refl
