-- It was handed over, or isn't due yet, or is handed over here.
use Rattle.std.proofs.Common.{sym, ap, ◌∙◌, arith}
use Rattle.cut_run.specs.declared.Cut.{Cut}
use Rattle.cut_run.proofs.Handed.{was_handed, not_yet, hands_over}
use Rattle.cut_run.proofs.Cut.before.Goals as goal
use Rattle.cut_run.proofs.Cut.before.Goals.{then-self-via-then-self, then-self-via-else-self+then-self-2}

pub returns-then-self : goal.returns-then-self
returns-then-self c =
    rw (← c.self.view_is)
    (elim c.then-self.branch [
      | then-self-via-then-self w ↦ was_handed _ (omega arith) w.if-self.true
      | then-self-via-else-self+then-self-2 w ↦ not_yet _ (omega arith) w.if-self.false w.if-self-2.true
    ])

pub returns : goal.returns
returns c =
    let was = c.self.view_is in
    let first = ap (λ (d : Cut). d.handed) (sym was) ∙ c.if-self.false in
    let due = ap (λ (d : Cut). d.kept.book.unit.seconds) (sym was) ∙ c.if-self-2.false ∙ ap (λ (d : Cut). d.at) was in
    rw (hands_over c.args.self.now first due) c.hand_over.ensures
