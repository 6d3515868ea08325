-- The values hold, by computing. Assumes nothing.
use Rattle.std.proofs.Common.{rules}
use lib.Ieee.{of_bits, to_bits}
use Rattle.meters.specs.Binary32.{finite_bits, size_of, exact_bits, nearest_whole, in_mhz}
use Rattle.meters.specs.Meters.{between, fair_reading, fair_accuracy, usable, smaller, of_two, counting, exact_deviation, count_out, said_with}
use Rattle.meters.specs.Values.{Values}

pub values : Values
unfolding of_bits to_bits finite_bits size_of exact_bits nearest_whole in_mhz between fair_reading fair_accuracy usable smaller of_two counting exact_deviation count_out said_with
values = search rules
