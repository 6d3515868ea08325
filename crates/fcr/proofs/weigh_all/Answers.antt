-- One more age adds what its change weighs; over all ages the sums are those of the definitions.
use Rattle.std.proofs.Common.{◌≡◌, ◌∷◌, ℤ, pos, ◌+ℤ◌, ◌*ℤ◌, refl, sym, ap, ◌∙◌, rules, add-one}
use Rattle.power.proofs.Past.{ranged_cons}
use Rattle.sheet.specs.Sheet.{per_time_part}
use Rattle.fcr.specs.Band.{fallen, risen, sum_to}
use Rattle.fcr.specs.State.{kept}
use Rattle.fcr.proofs.Parts.{parts_within}
use Rattle.fcr.proofs.Weighing.{weighed, falls_summed, rises_summed}
use Rattle.fcr.proofs.Range.{added_fits}
use Rattle.fcr.proofs.Bound.{falls_within, rises_within, grains_within}
use Rattle.fcr.proofs.Summed.{sum_more}
use Rattle.fcr.proofs.weigh_all.Goals as goal

pub loop-age-init : goal.loop-age-init
unfolding sum_to
loop-age-init c = record { at_age = refl; falls = refl; rises = refl }

pub plus-falls-requires : goal.plus-falls-requires
plus-falls-requires c =
    let now = ranged_cons c.args.s c.args.past.now c.requires.1 c.requires.0 in
    added_fits _ _ _
    (rw c.loop-age.invariant.falls (falls_within c.args.sheet.figures c.args.sheet.in_range c.loop-age.age _ now (search rules)))
    c.fall.ensures.1 (rw c.at_age-one.ensures (parts_within c.args.sheet.figures c.args.sheet.in_range c.loop-age.age))

pub plus-rises-requires : goal.plus-rises-requires
plus-rises-requires c =
    let now = ranged_cons c.args.s c.args.past.now c.requires.1 c.requires.0 in
    added_fits _ _ _
    (rw c.loop-age.invariant.rises (rises_within c.args.sheet.figures c.args.sheet.in_range c.loop-age.age _ now (search rules)))
    c.rise.ensures.1 (rw c.at_age-one.ensures (parts_within c.args.sheet.figures c.args.sheet.in_range c.loop-age.age))

pub loop-age-preserved : goal.loop-age-preserved
loop-age-preserved c =
    let v = c.loop-age.invariant in
    let more = λ (change : ℤ → ℤ → ℤ → ℤ). sum_more (weighed c.args.sheet.figures change) c.args.s c.args.past.now c.loop-age.age in
    record {
      at_age = rw add-one refl;
      falls = c.plus-falls.ensures ∙ (λ i. c.loop-age.falls.0 +ℤ c.fall.ensures.0 i *ℤ c.at_age-one.ensures i) ∙ more fallen _ c.loop-age.sj v.falls v.at_age;
      rises = c.plus-rises.ensures ∙ (λ i. c.loop-age.rises.0 +ℤ c.rise.ensures.0 i *ℤ c.at_age-one.ensures i) ∙ more risen _ c.loop-age.sj v.rises v.at_age;
    }

pub returns : goal.returns
returns c =
    let v = c.loop-age.invariant in
    let q = c.args.sheet.in_range in
    let now = ranged_cons c.args.s c.args.past.now c.requires.1 c.requires.0 in
    let e : c.loop-age.age ≡ kept = search rules in
    let in_grains = λ (z : ℤ). z *ℤ pos (per_time_part c.args.sheet.figures) in
    record {
      falls_are = c.in_grains.ensures ∙ ap in_grains (rw e at v.falls) ∙ sym (falls_summed c.args.sheet.figures q (c.args.s ∷ c.args.past.now));
      rises_are = c.in_grains-2.ensures ∙ ap in_grains (rw e at v.rises) ∙ sym (rises_summed c.args.sheet.figures q (c.args.s ∷ c.args.past.now));
      falls_small = rw (c.in_grains.ensures, v.falls) (grains_within c.args.sheet.figures q _ (falls_within c.args.sheet.figures q c.loop-age.age _ now (search rules)));
      rises_small = rw (c.in_grains-2.ensures, v.rises) (grains_within c.args.sheet.figures q _ (rises_within c.args.sheet.figures q c.loop-age.age _ now (search rules)));
    }
