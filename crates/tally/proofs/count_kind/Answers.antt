-- A second within the band, below it and above it.
use Rattle.std.proofs.Common.{sym, ◌∙◌}
use Rattle.tally.proofs.Counts.{within, below, above}
use Rattle.tally.proofs.count_kind.Goals as goal

pub returns-in-Within : goal.returns-in-Within
returns-in-Within c = within (sym c.side.ensures ∙ c.in-Within.is)

pub returns-in-Below : goal.returns-in-Below
returns-in-Below c = below (sym c.side.ensures ∙ c.in-Below.is) c.once_more.ensures

pub returns-in-Above : goal.returns-in-Above
returns-in-Above c = above (sym c.side.ensures ∙ c.in-Above.is) c.once_more-in-Above.ensures
