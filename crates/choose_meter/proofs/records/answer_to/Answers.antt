-- What stands past the fourth place doesn't matter.
use Rattle.std.proofs.Common.{◌∙◌, ap, length, eq-eqb, ne_eqb}
use Rattle.meters.proofs.Answers.{four_places}
use Rattle.choose_meter.specs.Records.{record_size, meters_in, number_in, said_in}
use Rattle.choose_meter.proofs.records.answer_to.Goals as goal

pub returns-in_default : goal.returns-in_default
unfolding said_in
returns-in_default c = rw (ne_eqb (length c.args.s.now) record_size c.in_default.ensures.1)

pub returns : goal.returns
unfolding said_in
returns c =
    let whole = c.in-Ok.ensures.1 in
    let s = c.in-Ok.s.now in
    let n = number_in s in
    rw (← whole.same, eq-eqb (length s) record_size (ap length whole.same ∙ whole.long))
    (rw (c.from.ensures, c.first_four.ensures) at c.choose_counted.ensures ∙ four_places (meters_in s) n)
