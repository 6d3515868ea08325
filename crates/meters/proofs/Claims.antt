-- The claims hold. Assumes nothing.
use Rattle.std.proofs.Common.{take}
use lib.Ieee.{binary32, of_bits}
use lib.Ieee.Fits.{sub-fits}
use Rattle.meters.specs.Meters.{bits50}
use Rattle.meters.specs.Claims.{Claims}
use Rattle.meters.proofs.Value.{finite_is, value}
use Rattle.meters.proofs.Fifty.{lossless, difference_fair}
use Rattle.meters.proofs.Bits.{to_bits, from_bits, by_bits, difference, same_mhz}
use Rattle.meters.proofs.Rounded.{rounded_nearest, rounded_even}
use Rattle.meters.proofs.Smallest.{counts}
use Rattle.meters.proofs.Answers.{passes_three, any_number}

pub claims : Claims
claims =
    record {
      valued = record { is_finite = finite_is; value = value };
      lossless =
          record {
            subtracted = λ f held fair. let l = lossless f held fair in (sub-fits binary32 f (of_bits binary32 bits50), l.is_finite, l.is);
            in_range = λ f held. (to_bits f held, from_bits f);
            by_bits = by_bits;
            difference = difference;
            same_mhz = same_mhz;
            same_range = difference_fair;
          };
      rounded = record { nearest = rounded_nearest; even = rounded_even };
      counts = counts;
      passes_three = λ places n. passes_three n (take n places);
      any_number = any_number;
    }
