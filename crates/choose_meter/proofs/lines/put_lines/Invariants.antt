-- The lines of the records so far are put, and the bytes after them are left.
use Rattle.std.proofs.Common.{◌≡◌, length}
use Rattle.choose_meter.specs.Records.{record_size}
use Rattle.choose_meter.proofs.Laws.{SoFar}
use Rattle.choose_meter.proofs.lines.put_lines.Given as goal

abbrev pub invariant-loop-record : goal.invariant-loop-record
invariant-loop-record l =
    (l.record-iterator.size ≡ record_size) × SoFar (length l.yielded) l.bytes l.record-iterator.rest.now l.initial.lent l.lent
