-- The band is that of the past that the state holds.
use Rattle.std.proofs.Common.{◌≡◌, ◌∷◌, ℕ, ◌-◌, length, take, sym, ap, ◌∙◌, subst, rules}
use Rattle.power.specs.Inward.{published_of}
use Rattle.fcr.specs.State.{kept, step_in, Stepped}
use Rattle.fcr.proofs.Steps.{limits_are, band_fits, stepped}
use Rattle.fcr.proofs.FcrState.step.Goals as goal

pub published-requires : goal.published-requires
published-requires c =
    let fits = band_fits _ c.args.sheet.in_range _ _ _ c.requires.0 c.requires.1 in
    let exact = limits_are _ _ _ _ _ _ _ c.weigh_all.ensures c.limits_of.ensures in
    (rw (exact, c.per_kw.ensures) fits.0, rw (exact, c.per_kw.ensures) fits.1)

pub returns : goal.returns
unfolding step_in
returns c =
    let exact = limits_are _ _ _ _ _ _ _ c.weigh_all.ensures c.limits_of.ensures in
    let band = c.published.ensures ∙ (λ i. published_of (c.per_kw.ensures i) (exact i)) in
    let len : length c.args.self.now.past ≡ kept = search rules in
    let past = c.push_newest.ensures ∙ ap (λ (n : ℕ). c.args.s ∷ take (n - 1) c.args.self.now.past) len in
    let e : _ ≡ step_in c.args.sheet.figures c.args.self.now c.args.s c.args.held = λ i. record { band = band i; state = record { past = past i } } in
    subst (Stepped c.args.sheet.figures c.args.self.now c.args.s c.args.held) (sym e) (stepped _ c.args.sheet.in_range _ _ _ c.requires.0 c.requires.1)
