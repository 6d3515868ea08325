-- By the book's answer.
use Rattle.std.proofs.Common.{refl, ap, ◌∙◌}
use Rattle.std.proofs.lemmas.Result.{err_from_is_err_and}
use Rattle.report.specs.Kept.{keep}
use Rattle.cut_run.specs.declared.Cut.{Cut}
use Rattle.cut_run.proofs.Handed.{opened, refused, refused_ready}
use Rattle.cut_run.proofs.Cut.hand_over.Goals as goal

pub invariant_of-self : goal.invariant_of-self
invariant_of-self c = refused_ready (keep _ _) c.in_err-hand_over.ensures refl c.self.invariant

pub returns-in_err-hand_over : goal.returns-in_err-hand_over
returns-in_err-hand_over c =
    let p = err_from_is_err_and c.from_residual.result c.from_residual.ensures.1 in
    let f = refused (keep _ _) c.add.ensures c.in_err-hand_over.ensures refl in
    rw (p.1, p.2, ← c.self.view_is)
    (record { adds = f.0; handed = ap (λ (d : Cut). d.handed) c.self.view_is ∙ c.requires.0 ∙ f.1; plan = refl; cut_at = refl })

pub returns : goal.returns
returns c =
    let f = opened (keep _ _) c.add.ensures c.in_ok-hand_over.ensures refl in
    rw (c.new-self-inside.ensures, ← c.self.view_is) (record { adds = f.0; handed = f.1; plan = refl; cut_at = refl })
