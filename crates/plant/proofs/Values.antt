-- The values of specs/Values.antt, computed. Assumes nothing.
use Rattle.std.proofs.Common.{rules}
use Rattle.record.specs.Record.{bits_of, fault_in}
use Rattle.fcr.specs.Setpoint.{setpoint_of}
use Rattle.numbers.specs.Bounds.{outside}
use Rattle.mfrr.specs.Signal.{is_resting, last_of, through, phase_at, ramp_part, ramp_up, ramp_down, value_of, value_at, signal, phase_now, setpoint_at}
use Rattle.mfrr.specs.Leftovers.{ended, leftovers, counting}
use Rattle.mfrr.specs.Refusals.{target_out, end_out, ninth, call_rules, rules_at}
use Rattle.mfrr.specs.State.{second_of}
use Rattle.sharing.specs.Rows.{kind_if}
use Rattle.plant.specs.Refusals.{held_out, deviation_out, power_out, setpoint_out, call_filled, call_out, kind_moved, any_moved, status_moved, record_number, off_moves, off_number, record_number_at, number_at}
use Rattle.plant.specs.Rows.{kinds_with}
use Rattle.plant.specs.Values.{Values}

values : Values
unfolding bits_of fault_in kind_moved any_moved status_moved setpoint_of outside held_out deviation_out power_out setpoint_out call_filled call_out record_number off_moves off_number record_number_at number_at kind_if kinds_with is_resting last_of through phase_at ramp_part ramp_up ramp_down value_of value_at signal phase_now setpoint_at ended leftovers counting target_out end_out ninth call_rules rules_at second_of
values = search rules
