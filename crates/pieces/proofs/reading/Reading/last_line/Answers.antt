-- The counts, then the last line.
use Rattle.std.proofs.Common.{rules, subst, ◌∙◌}
use Rattle.codec.specs.Lent.{Grown}
use Rattle.codec.proofs.Lents.{both}
use Rattle.report.specs.Text.{counts_of, second_room}
use Rattle.pieces.specs.declared.reading.Reading.{Reading}
use Rattle.pieces.specs.Pieces.{last_in}
use Rattle.pieces.proofs.Chunks.{at_front}
use Rattle.pieces.proofs.reading.Reading.last_line.Goals as goal

pub returns : goal.returns
unfolding last_in
returns c =
    let counts = subst (λ (r : Reading). Grown second_room c.new-text.result c.add_counts.new.text (counts_of r.standing.plan.form r.standing.kept.tally)) c.self.view_is c.add_counts.ensures in
    let g = both counts c.add.ensures in
    let same = g.same ∙ c.new-text.ensures.same in
    rw (← c.last_line.ensures) (at_front c.new-text.ensures.bytes c.new-text.ensures.start (search rules) g)
