-- None due, or the header: no text.
use Rattle.std.proofs.Common.{sym, ◌∙◌}
use Rattle.standing.specs.Stood.{stood}
use Rattle.standing.proofs.Steps.{past_due, header_block}
use Rattle.standing.proofs.Standing.block.Goals as goal

pub returns-then-not-is_due : goal.returns-then-not-is_due
returns-then-not-is_due c =
    past_due (stood c.args.self.now) c.args.bytes.now c.requires (sym c.is_due.ensures ∙ c.if-not-is_due.true) c.beyond.ensures

pub returns-then-self-eq0 : goal.returns-then-self-eq0
returns-then-self-eq0 c =
    header_block (stood c.args.self.now) c.args.bytes.now c.requires (sym c.is_due.ensures ∙ c.if-not-is_due.false) c.if-self-eq0.true c.header.ensures
