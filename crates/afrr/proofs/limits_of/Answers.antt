-- What the limits are made of is what the definition says.
use Rattle.std.proofs.Common.{◌∙◌, rules}
use Rattle.numbers.specs.Order.{max_z, min_z}
use Rattle.power.specs.Units.{grains}
use Rattle.afrr.specs.Band.{limits_by}
use Rattle.afrr.proofs.Windows.{largest_part, smallest_part}
use Rattle.afrr.proofs.Steps.{upper_sources, lower_sources}
use Rattle.afrr.proofs.limits_of.Goals as goal

pub lower-requires : goal.lower-requires
lower-requires c =
    let least = c.outermost.ensures min_z (λ a b r k. search rules) ∙ smallest_part c.args.sheet.figures.afrr_reaction c.args.state.now.past (search rules) in
    (rw (least, c.gradient_of.ensures, c.percent.ensures, c.held.ensures.held, c.per_kw-per.ensures) (lower_sources _ c.args.sheet.in_range _ _ c.requires.0 c.requires.1))

pub upper-requires : goal.upper-requires
upper-requires c =
    let most = c.outermost-2.ensures max_z (λ a b r k. search rules) ∙ largest_part c.args.sheet.figures.afrr_reaction c.args.state.now.past (search rules) in
    (rw (most, c.gradient_of.ensures, c.percent.ensures, c.held.ensures.held, c.per_kw-per.ensures) (upper_sources _ c.args.sheet.in_range _ _ c.requires.0 c.requires.1))

pub returns : goal.returns
unfolding limits_by
returns c =
    let least = c.outermost.ensures min_z (λ a b r k. search rules) ∙ smallest_part c.args.sheet.figures.afrr_reaction c.args.state.now.past (search rules) in
    let most = c.outermost-2.ensures max_z (λ a b r k. search rules) ∙ largest_part c.args.sheet.figures.afrr_reaction c.args.state.now.past (search rules) in
    let down = rw (least, c.gradient_of.ensures, c.percent.ensures, c.held.ensures.held, c.per_kw-per.ensures) at c.lower.ensures in
    let up = rw (most, c.gradient_of.ensures, c.percent.ensures, c.held.ensures.held, c.per_kw-per.ensures) at c.upper.ensures in
    λ i. record { lower = grains (down i); upper = grains (up i) }
