-- Each end of a step by its law.
use Rattle.std.proofs.Common.{◌≡◌, Err, sym, rules}
use Rattle.abla.proofs.Steps.{taken_fair, given, turned_down}
use Rattle.abla.proofs.AblaState.step.Goals as goal

pub returns-in_err-check : goal.returns-in_err-check
returns-in_err-check c =
    let e : c.from_residual.result ≡ Err c.in_err-check.field-0.0 = search rules in
    turned_down c.args.self.now c.requires.0 c.args.x c.in_err-check.field-0.0 e c.in_err-check.ensures

pub invariant_of-advance : goal.invariant_of-advance
invariant_of-advance c = record { fair = taken_fair c.args.self.now c.requires.0 c.args.x (sym c.in_ok-check.ensures) c.requires.1 }

pub returns : goal.returns
returns c =
    let z = sym c.in_ok-check.ensures in
    given c.args.self.now c.requires.0 c.args.x z (taken_fair c.args.self.now c.requires.0 c.args.x z c.requires.1) c.advance.ensures
