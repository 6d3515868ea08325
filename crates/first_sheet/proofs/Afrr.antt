-- aFRR's limits. Assumes nothing.
use Rattle.std.proofs.Common.{◌≡◌, refl, ap, ◌∙◌, List, [], ◌∷◌, ℤ, pos, ◌+ℤ◌, ◌-ℤ◌, ◌*ℤ◌}
use Rattle.numbers.specs.Order.{max_z, min_z}
use Rattle.power.specs.declared.kilowatts.Kw.{Kw}
use Rattle.power.specs.Units.{grains, in_grains, percent_of}
use Rattle.sheet.specs.Sheet.{first_figures, per_kw}
use Rattle.afrr.specs.declared.Second.{Second}
use Rattle.afrr.specs.Band.{largest, smallest, held_of, next_upper, next_lower, setpoints}
use Rattle.afrr.specs.Band as afrr
use Rattle.first_sheet.specs.Grains.{first, five_percent}
use Rattle.first_sheet.specs.Afrr.{gradient, limits_from, last_limits}
use Rattle.first_sheet.specs.Claims.{finer, in_finer}
use Rattle.first_sheet.proofs.Finer.{now, add_finer, sub_finer, max_finer, min_finer, grains_finer, five_finer, over_270}

gradient_finer : (p : List Kw) → afrr.gradient first_figures p ≡ gradient p *ℤ pos finer
unfolding afrr.gradient_by gradient first_figures per_kw
gradient_finer p = over_270 (max_z first_figures.least_range.0 (largest (afrr.earlier first_figures p) -ℤ smallest (afrr.earlier first_figures p)))

-- over plain numbers: of the recent setpoints the largest or the smallest, the last limit, the gradient, the setpoint, and what is held
module _ (out last g s held l v : ℤ) (e : l ≡ last *ℤ pos finer) (f : v ≡ g *ℤ pos finer) where
  upper_finer : next_upper now out l v s (percent_of now 5 held) ≡ next_upper first out last g s (five_percent held) *ℤ pos finer
  unfolding next_upper
  upper_finer =
      (λ i. max_z (grains_finer out i) (max_z (e i -ℤ f i) (grains_finer s i +ℤ five_finer held i)))
      ∙ (λ i. max_z (in_grains first out *ℤ pos finer) (max_z (sub_finer last g i) (add_finer (in_grains first s) (five_percent held) i)))
      ∙ ap (max_z (in_grains first out *ℤ pos finer)) (max_finer (last -ℤ g) (in_grains first s +ℤ five_percent held))
      ∙ max_finer (in_grains first out) (max_z (last -ℤ g) (in_grains first s +ℤ five_percent held))

  lower_finer : next_lower now out l v s (percent_of now 5 held) ≡ next_lower first out last g s (five_percent held) *ℤ pos finer
  unfolding next_lower
  lower_finer =
      (λ i. min_z (grains_finer out i) (min_z (e i +ℤ f i) (grains_finer s i -ℤ five_finer held i)))
      ∙ (λ i. min_z (in_grains first out *ℤ pos finer) (min_z (add_finer last g i) (sub_finer (in_grains first s) (five_percent held) i)))
      ∙ ap (min_z (in_grains first out *ℤ pos finer)) (min_finer (last +ℤ g) (in_grains first s -ℤ five_percent held))
      ∙ min_finer (in_grains first out) (min_z (last +ℤ g) (in_grains first s -ℤ five_percent held))

pub limits_finer : (h : List Second) → afrr.last_limits first_figures h ≡ in_finer (last_limits h)
unfolding afrr.last_limits afrr.limits_by last_limits limits_from first_figures per_kw
limits_finer [] = refl
limits_finer (x ∷ h) =
    let p = setpoints h in
    let l = limits_finer h in
    λ i.
    record {
      lower = grains (lower_finer (smallest (afrr.recent first_figures p)) (last_limits h).lower.0 (gradient p) x.setpoint.0 (held_of x) _ _ (λ j. (l j).lower.0) (gradient_finer p) i);
      upper = grains (upper_finer (largest (afrr.recent first_figures p)) (last_limits h).upper.0 (gradient p) x.setpoint.0 (held_of x) _ _ (λ j. (l j).upper.0) (gradient_finer p) i);
    }
