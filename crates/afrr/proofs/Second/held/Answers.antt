-- The code's tests are those of the definition.
use Rattle.std.proofs.Common.{pos, sym, ◌∙◌}
use Rattle.numbers.proofs.Compared.{lt_told}
use Rattle.afrr.proofs.Parts.{held_up, held_down, held_at_0, holds}
use Rattle.afrr.proofs.Second.held.Goals as goal

pub returns-then-lt : goal.returns-then-lt
returns-then-lt c =
    let up = lt_told (pos 0) c.args.self.setpoint.0 c.lt.ensures c.if-lt.true in
    holds c.args.self c.requires _ (sym (held_up c.args.self up))

pub returns-then-lt-2 : goal.returns-then-lt-2
returns-then-lt-2 c =
    let up = lt_told (pos 0) c.args.self.setpoint.0 c.lt.ensures c.if-lt.false in
    let down = lt_told c.args.self.setpoint.0 (pos 0) c.lt-else-lt.ensures c.if-lt-2.true in
    holds c.args.self c.requires _ (sym (held_down c.args.self up down))

pub returns-else-lt-2 : goal.returns-else-lt-2
returns-else-lt-2 c =
    let up = lt_told (pos 0) c.args.self.setpoint.0 c.lt.ensures c.if-lt.false in
    let down = lt_told c.args.self.setpoint.0 (pos 0) c.lt-else-lt.ensures c.if-lt-2.false in
    holds c.args.self c.requires _ (c.larger.ensures ∙ sym (held_at_0 c.args.self up down))
