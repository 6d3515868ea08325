-- The values of specs/Values.antt, computed. Assumes nothing.
use Rattle.std.proofs.Common.{refl}
use Rattle.numbers.specs.Bounds.{outside}
use Rattle.numbers.specs.Order.{max_z, min_z}
use Rattle.codec.specs.Little.{twos_complement}
use Rattle.power.specs.Inward.{upper_kw, lower_kw}
use Rattle.power.specs.Past.{newest}
use Rattle.sheet.specs.Sheet.{default_sheet, per_kw}
use Rattle.record.specs.Record.{record_of, bits_of, fault_in}
use Rattle.fcr.specs.Setpoint.{setpoint_of}
use Rattle.fcr.specs.Band as fcr-band
use Rattle.afrr.specs.Band.{largest, smallest, gradient_by, held_of, next_upper, next_lower, limits_by, last_limits}
use Rattle.mfrr.specs.Signal.{signal, phase_now, setpoint_at, value_at, value_of, phase_at}
use Rattle.mfrr.specs.Band as mfrr_band_is
use Rattle.mfrr.specs.Refusals.{refusal, rules_at}
use Rattle.mfrr.specs.State.{second_of}
use Rattle.sharing.specs.Shares.{parts}
use Rattle.sharing.specs.Rows.{kind_if, kind_rows, open_of, row_of}
use Rattle.plant.specs.Refusals as plant-refusals
use Rattle.plant.specs.Rows.{kinds_with, kinds_at, row_at}
use Rattle.book.specs.Seconds.{due_of}
use Rattle.book.specs.Refusals as book-refusals
use Rattle.book.specs.Rows.{values_of, unit_row_at, pool_row_at}
use Rattle.book.specs.Sums.{sums_of}
use Rattle.block.specs.Bytes.{all_zero}
use Rattle.block.specs.Check.{weights, check_of}
use Rattle.block.specs.Header.{header_number}
use Rattle.block.specs.Block.{block_number, seconds_from}
use Rattle.block.specs.Book.{later_blocks, joined, later_bytes, book_bytes}
use Rattle.block.specs.Layout.{header_front, block_front}
use Rattle.line.specs.Text.{digits_in, digits, decimal, field, named}
use Rattle.line.specs.Line.{plant_text, second_text, sum_text, refusal_text}
use Rattle.printed.specs.Printed.{judged, end_text, printed}
use Rattle.printed.specs.Values.{Values}

values : Values
unfolding outside max_z min_z twos_complement upper_kw lower_kw newest record_of bits_of fault_in setpoint_of default_sheet per_kw fcr-band.weight fcr-band.fallen fcr-band.risen fcr-band.fall_of fcr-band.rise_of fcr-band.sum_to fcr-band.limits_at largest smallest gradient_by held_of next_upper next_lower limits_by last_limits signal phase_now setpoint_at value_at value_of phase_at mfrr_band_is.spanned mfrr_band_is.limits_at refusal rules_at second_of parts kind_rows open_of row_of plant-refusals.held_out plant-refusals.deviation_out plant-refusals.power_out plant-refusals.setpoint_out plant-refusals.call_filled plant-refusals.call_out plant-refusals.kind_moved plant-refusals.any_moved plant-refusals.status_moved plant-refusals.off_number plant-refusals.record_number_at plant-refusals.number_at plant-refusals.off_moves kind_if kinds_with kinds_at row_at due_of book-refusals.form_number book-refusals.number_at values_of unit_row_at pool_row_at sums_of all_zero weights check_of header_number block_number seconds_from later_blocks joined later_bytes book_bytes header_front block_front digits_in digits decimal field named plant_text second_text sum_text refusal_text judged end_text printed
values = record { full_case = refl; nothing = refl; refused_second = refl }
