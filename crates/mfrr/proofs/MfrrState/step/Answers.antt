-- Each end of a step by its law.
use Rattle.std.proofs.Common.{◌≡◌, Err, sym, ◌∙◌, arith, rules}
use Rattle.mfrr.specs.State.{second_of, refusal_in}
use Rattle.mfrr.proofs.Steps.{call_passed, Taken, called, not_called, next_of, given, turned_down}
use Rattle.mfrr.proofs.MfrrState.step.Goals as goal
use Rattle.mfrr.proofs.MfrrState.step.Goals.{Joined-call, in-Some+in_ok-check_call, in_default}

taken : (c : Joined-call) → Taken c.args.sheet.figures c.args.self.now c.args.t (second_of c.args.call) c.match-call.self
taken c =
    elim c.match-call.branch [
      | in-Some+in_ok-check_call w ↦ called w.in-Some.is (sym w.in_ok-check_call.ensures) (w.self-is ∙ w.take_in.ensures)
      | in_default w ↦ not_called w.in_default.is w.self-is
    ]

pub returns-in_err-check_call : goal.returns-in_err-check_call
unfolding second_of refusal_in
returns-in_err-check_call c =
    let e : c.from_residual.result ≡ Err c.in_err-check_call.field-0.0 = search rules in
    rw c.in-Some.is (turned_down c.args.sheet.figures c.args.sheet.in_range c.args.self.now c.args.t c.requires c.in_err-check_call.field-0.0 e c.in_err-check_call.ensures)

pub take_in-requires : goal.take_in-requires
take_in-requires c =
    let p = call_passed c.args.self.now c.args.t c.in-Some.call.target c.in-Some.call.end (sym c.in_ok-check_call.ensures) in
    (omega (arith, p.end.least), c.requires)

pub advance-requires : goal.advance-requires
advance-requires c = next_of c.args.sheet.figures c.args.sheet.in_range c.args.self.now c.args.t c.requires (taken c.before)

pub returns : goal.returns
returns c = given c.args.sheet.figures c.args.sheet.in_range c.args.self.now c.args.t c.requires (taken c.before.before) c.advance.ensures
