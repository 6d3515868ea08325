-- The values hold, by computing. Assumes nothing.
use Rattle.std.proofs.Common.{rules}
use lib.Ieee.{of_bits, to_bits}
use Rattle.line.specs.Text.{digits_in, digits, decimal, field}
use Rattle.meters.specs.Binary32.{finite_bits, size_of, exact_bits, nearest_whole, in_mhz}
use Rattle.meters.specs.Meters.{between, fair_reading, fair_accuracy, usable, smaller, of_two, counting, exact_deviation, count_out, said_with}
use Rattle.choose_meter.specs.Records.{reading_of, meter_at, said_in}
use Rattle.choose_meter.specs.Printed.{line_text, lines_of, printed}
use Rattle.choose_meter.specs.Values.{Values}

pub values : Values
unfolding of_bits to_bits digits_in digits decimal field finite_bits size_of exact_bits nearest_whole in_mhz between fair_reading fair_accuracy usable smaller of_two counting exact_deviation count_out said_with reading_of meter_at said_in line_text lines_of printed
values = search rules
