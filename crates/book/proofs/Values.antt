-- The values of specs/Values.antt, computed. Assumes nothing.
use Rattle.std.proofs.Common.{rules}
use Rattle.record.specs.Record.{bits_of}
use Rattle.book.specs.Refusals.{form_number}
use Rattle.book.specs.HandOver.{hand_over_number}
use Rattle.book.specs.Rows.{values_of}
use Rattle.book.specs.State.{sums_with}
use Rattle.book.specs.Values.{Values}

values : Values
unfolding bits_of form_number hand_over_number values_of sums_with
values = search rules
