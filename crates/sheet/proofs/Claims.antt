-- The claims hold. Assumes nothing.
use Rattle.sheet.specs.Claims.{Claims}
use Rattle.sheet.proofs.Sizes as sizes
use Rattle.sheet.proofs.Ranges as ranges

pub claims : Claims
claims =
    record {
      in_range = λ sh. (ranges.in_range sh, ranges.ranged sh);
      default_in_range = ranges.default_in_range;
      first_in_range = ranges.first_in_range;
      divides = sizes.divides;
      percent = sizes.percent_whole;
      time_part = sizes.time_part;
      spread_part = sizes.spread_part;
    }
