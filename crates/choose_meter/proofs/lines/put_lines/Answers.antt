-- The lines of the records so far are put, then that of the next.
use Rattle.std.proofs.Common.{◌≤◌, ◌<◌, ap, arith, ◌∙◌, length}
use Rattle.std.proofs.lemmas.List.{length-append}
use Rattle.choose_meter.specs.Records.{record_size}
use Rattle.choose_meter.proofs.Laws.{begin, room, onward, all}
use Rattle.choose_meter.proofs.lines.put_lines.Goals as goal

pub loop-record-init : goal.loop-record-init
loop-record-init c =
    let items = c.chunks_exact-record-items in
    rw c.into_iter-record-iterator.ensures.into_iter_gives (items.ensures.size, rw items.ensures.rest (begin _ _ c.requires.1))

pub put_line-requires : goal.put_line-requires
put_line-requires c =
    let step = c.in-Some.ensures.steps in
    let some : record_size ≤ length c.loop-record.record-iterator.rest.now = omega (arith, ap length step.1.0, length-append c.in-Some.record.now c.next.new.self.rest.now, step.1.1) in
    room c.loop-record.invariant.1 some c.requires.0 c.requires.1

pub loop-record-preserved : goal.loop-record-preserved
loop-record-preserved c =
    let step = c.in-Some.ensures.steps in (
      step.0 ∙ c.loop-record.invariant.0,
      rw length-append (onward c.loop-record.invariant.1 c.in-Some.record.now step.1.0 (step.1.1 ∙ c.loop-record.invariant.0) c.put_line.ensures),
    )

pub returns : goal.returns
returns c =
    let none : length c.loop-record.record-iterator.rest.now < record_size = omega (arith, c.in-None.ensures.steps.1) in
    all c.loop-record.invariant.1 none c.requires.0
