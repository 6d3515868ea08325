-- The band is that of the limits, and the state the one that the definition leaves.
use Rattle.std.proofs.Common.{◌≡◌, sym, ◌∙◌, subst}
use Rattle.power.specs.Inward.{published_of}
use Rattle.afrr.specs.State.{step_in, Stepped}
use Rattle.afrr.proofs.Steps.{band_fits, stepped}
use Rattle.afrr.proofs.AfrrState.step.Goals as goal

pub published-requires : goal.published-requires
published-requires c =
    let fits = band_fits _ c.args.sheet.in_range _ _ c.requires.0 c.requires.1 in
    (rw (c.limits_of-limits.ensures, c.per_kw.ensures) fits.0, rw (c.limits_of-limits.ensures, c.per_kw.ensures) fits.1)

pub returns : goal.returns
unfolding step_in
returns c =
    let s = c.args in
    let limits = c.limits_of-limits.ensures in
    let band = c.published.ensures ∙ (λ i. published_of (c.per_kw.ensures i) (limits i)) in
    let m = c.move_on.ensures in
    let e : _ ≡ step_in s.sheet.figures s.self.now s.x = λ i. record { band = band i; state = record { past = m.past i; highest = m.highest i; lowest = m.lowest i; limits = (m.limits ∙ limits) i } } in
    subst (Stepped s.sheet.figures s.self.now s.x) (sym e) (stepped _ c.args.sheet.in_range _ _ c.requires.0 c.requires.1)
