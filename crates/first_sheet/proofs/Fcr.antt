-- FCR's limits. Assumes nothing.
use Rattle.std.proofs.Common.{◌≡◌, refl, ap, sym, ◌∙◌, Bool, true, false, cond, List, ◌∷◌, ℕ, zero, suc, ◌-◌, arith, leb, ℤ, pos, ◌+ℤ◌, ◌-ℤ◌, ◌*ℤ◌}
use Rattle.std.specs.Int.Signed.{quot_z}
use Rattle.numbers.specs.Order.{max_z}
use Rattle.numbers.proofs.Parts.{shows, eq_up, eq_dn, mul_nat}
use Rattle.power.specs.declared.kilowatts.Kw.{Kw}
use Rattle.power.specs.Units.{grains, in_grains, percent_of}
use Rattle.power.specs.Past.{at}
use Rattle.sheet.specs.Sheet.{first_figures, per_kw}
use Rattle.fcr.specs.Factor.{figures_per_kw, weight_factor}
use Rattle.fcr.specs.Band.{fallen, risen, sum_to, aged}
use Rattle.fcr.specs.Band as fcr
use Rattle.fcr.proofs.Weighing as weighing
use Rattle.first_sheet.specs.Grains.{first, five_percent}
use Rattle.first_sheet.specs.Fcr.{weight, fall_of, rise_of, limits_at}
use Rattle.first_sheet.specs.Claims.{finer, in_finer}
use Rattle.first_sheet.proofs.Finer.{now, add_finer, sub_finer, max_finer, grains_finer, five_finer, over_30, swap}

-- ---- a weight

late : (d : ℤ) (k : ℕ) → quot_z (in_grains now d *ℤ pos k) (pos 30) ≡ quot_z (in_grains first d *ℤ pos k) (pos 30) *ℤ pos finer
late d k =
    ap (λ (z : ℤ). quot_z z (pos 30)) (swap d now k)
    ∙ over_30 (d *ℤ pos k)
    ∙ ap (λ (z : ℤ). quot_z z (pos 30) *ℤ pos finer) (swap d k first)

weight_finer : (a : ℕ) (d : ℤ) → fcr.weight first_figures a d ≡ weight a d *ℤ pos finer
unfolding fcr.weight weight first_figures per_kw
weight_finer a d = go (leb a 15)
  where
    go :
        (t : Bool) →
        cond t (in_grains now d) (quot_z (in_grains now d *ℤ pos (30 - a)) (pos 30))
        ≡ cond t (in_grains first d) (quot_z (in_grains first d *ℤ pos (30 - a)) (pos 30)) *ℤ pos finer
    go true = grains_finer d
    go false = late d (30 - a)

-- W5's figures are those of the formula
pub figures : (a : ℕ) (d : ℤ) → weight a d ≡ d *ℤ pos (weight_factor a)
unfolding first_figures per_kw
figures a d =
    cancel (weight a d) (d *ℤ pos (weight_factor a))
    (ap (λ (z : ℤ). z *ℤ pos figures_per_kw) (sym (weight_finer a d))
    ∙ weighing.figures first_figures d refl a
    ∙ swap d now (weight_factor a))
  where
    cancel : (x y : ℤ) → x *ℤ pos finer *ℤ pos figures_per_kw ≡ y *ℤ pos now → x ≡ y
    cancel x y e = omega (arith, shows, eq_up e, eq_dn e, mul_nat (x *ℤ pos finer) figures_per_kw, mul_nat x finer, mul_nat y now)

-- ---- the sums

sum_finer : (n : ℕ) (f g : ℕ → ℤ) → ((k : ℕ) → f k ≡ g k *ℤ pos finer) → sum_to n f ≡ sum_to n g *ℤ pos finer
unfolding sum_to
sum_finer zero f g e = refl
sum_finer (suc n) f g e = (λ i. sum_finer n f g e i +ℤ e n i) ∙ add_finer (sum_to n g) (g n)

falls_finer : (l : List Kw) → sum_to 31 (aged (fcr.fall_of first_figures) l) ≡ sum_to 31 (aged fall_of l) *ℤ pos finer
unfolding fcr.fall_of fall_of
falls_finer l =
    sum_finer 31 (aged (fcr.fall_of first_figures) l) (aged fall_of l) (λ k. weight_finer k (fallen (at l 0) (at l (suc k)) (at l k)))

rises_finer : (l : List Kw) → sum_to 31 (aged (fcr.rise_of first_figures) l) ≡ sum_to 31 (aged rise_of l) *ℤ pos finer
unfolding fcr.rise_of rise_of
rises_finer l =
    sum_finer 31 (aged (fcr.rise_of first_figures) l) (aged rise_of l) (λ k. weight_finer k (risen (at l 0) (at l (suc k)) (at l k)))

-- ---- the limits

-- over plain numbers: the setpoint, what is held, and the summed weights w in document 01's grains
module _ (s held w v : ℤ) (e : v ≡ w *ℤ pos finer) where
  tolerance_finer : max_z (percent_of now 5 held) v ≡ max_z (five_percent held) w *ℤ pos finer
  tolerance_finer = (λ i. max_z (five_finer held i) (e i)) ∙ max_finer (five_percent held) w

  upper_finer : in_grains now s +ℤ max_z (percent_of now 5 held) v ≡ (in_grains first s +ℤ max_z (five_percent held) w) *ℤ pos finer
  upper_finer = (λ i. grains_finer s i +ℤ tolerance_finer i) ∙ add_finer (in_grains first s) (max_z (five_percent held) w)

  lower_finer : in_grains now s -ℤ max_z (percent_of now 5 held) v ≡ (in_grains first s -ℤ max_z (five_percent held) w) *ℤ pos finer
  lower_finer = (λ i. grains_finer s i -ℤ tolerance_finer i) ∙ sub_finer (in_grains first s) (max_z (five_percent held) w)

pub limits_finer : (h : List Kw) (s held : Kw) → fcr.limits_at first_figures h s held ≡ in_finer (limits_at h s held)
unfolding fcr.limits_at limits_at first_figures per_kw
limits_finer h s held =
    λ i.
    record {
      lower = grains (lower_finer s.0 held.0 (sum_to 31 (aged rise_of (s ∷ h))) _ (rises_finer (s ∷ h)) i);
      upper = grains (upper_finer s.0 held.0 (sum_to 31 (aged fall_of (s ∷ h))) _ (falls_finer (s ∷ h)) i);
    }
