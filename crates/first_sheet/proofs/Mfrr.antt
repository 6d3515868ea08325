-- mFRR's limits. Assumes nothing.
use Rattle.std.proofs.Common.{◌≡◌, refl, ap, sym, ◌∙◌, Bool, true, false, cond, List, [], ◌∷◌, map, ℕ, ltb, ℤ, pos, length}
use Rattle.power.specs.declared.limits.Limits.{Limits}
use Rattle.power.specs.Units.{grains}
use Rattle.sheet.specs.Sheet.{first_figures, per_kw}
use Rattle.mfrr.specs.Signal.{MfrrSecond, quiet, call, History, Phase, resting, ramping_up, delivering, ramping_down, signal, phase_at, phase_now, setpoint_at, is_resting}
use Rattle.mfrr.specs.Limits.{span, span_all}
use Rattle.mfrr.specs.Limits as limits
use Rattle.mfrr.specs.Leftovers as left
use Rattle.mfrr.specs.Band as mfrr
use Rattle.first_sheet.specs.Grains.{times12}
use Rattle.first_sheet.specs.Mfrr.{point, target_limits, limits_of, Leftover, ended, leftovers, counting, limits_at}
use Rattle.first_sheet.specs.Claims.{in_finer}
use Rattle.first_sheet.proofs.Finer.{max_finer, min_finer, grains_finer, times12_finer}

-- ---- a call

span_finer : (a b : Limits) → span (in_finer a) (in_finer b) ≡ in_finer (span a b)
unfolding span
span_finer a b =
    λ i. record { lower = grains (min_finer a.lower.0 b.lower.0 i); upper = grains (max_finer a.upper.0 b.upper.0 i) }

point_finer : (z : ℤ) → limits.point first_figures z ≡ in_finer (point z)
unfolding limits.point first_figures per_kw
point_finer z = λ i. record { lower = grains (grains_finer z i); upper = grains (grains_finer z i) }

target_finer : (e : ℤ) → limits.target_limits first_figures e ≡ in_finer (target_limits e)
unfolding limits.target_limits limits.times_factor first_figures per_kw
target_finer e =
    (λ i. span (point_finer e i) (record { lower = grains (times12_finer e i); upper = grains (times12_finer e i) }))
    ∙ span_finer (point e) (record { lower = grains (times12 e); upper = grains (times12 e) })

ramp_finer : (b e : ℤ) → limits.ramp_limits first_figures b e ≡ in_finer (span (point b) (target_limits e))
unfolding limits.ramp_limits
ramp_finer b e = (λ i. span (point_finer b i) (target_finer e i)) ∙ span_finer (point b) (target_limits e)

of_finer : (p : Phase) → limits.limits_of first_figures p ≡ in_finer (limits_of p)
unfolding limits.limits_of limits_of
of_finer resting = point_finer (pos 0)
of_finer (ramping_up b e j D) = ramp_finer b e
of_finer (delivering e D) = target_finer e
of_finer (ramping_down e D) = ramp_finer (pos 0) e

-- ---- leftovers: each holds its phase now, where it held that phase's limits

abbrev holding : left.Leftover → Leftover
holding x = record { limits = limits_of x.phase; free = x.free }

of_cond : {A B : Type 0} (f : A → B) (t : Bool) (xs ys : List A) → cond t (map f xs) (map f ys) ≡ map f (cond t xs ys)
of_cond f true xs ys = refl
of_cond f false xs ys = refl

all_hold : (h : History) → leftovers h ≡ map holding (left.leftovers h)
unfolding leftovers ended left.leftovers left.ended left.leftover_of
all_hold [] = refl
all_hold (quiet ∷ h) = all_hold h
all_hold (call e D ∷ h) =
    let p = phase_at (signal h) (length h) in
    ap (ended p) (all_hold h) ∙ of_cond holding (is_resting p) (left.leftovers h) (left.leftover_of p ∷ left.leftovers h)

same_count : (t : ℕ) (xs : List left.Leftover) → counting t (map holding xs) ≡ map limits_of (left.counting t xs)
unfolding counting left.counting
same_count t [] = refl
same_count t (x ∷ xs) =
    ap (λ (ls : List Limits). cond (ltb t x.free) (limits_of x.phase ∷ ls) ls) (same_count t xs)
    ∙ of_cond limits_of (ltb t x.free) (x.phase ∷ left.counting t xs) (left.counting t xs)

-- ---- the band

all_finer : (l : Limits) (ps : List Phase) → span_all (in_finer l) (map (limits.limits_of first_figures) ps) ≡ in_finer (span_all l (map limits_of ps))
unfolding span_all
all_finer l [] = refl
all_finer l (p ∷ ps) =
    ap (λ (m : Limits). span_all m (map (limits.limits_of first_figures) ps)) (ap (span (in_finer l)) (of_finer p) ∙ span_finer l (limits_of p))
    ∙ all_finer (span l (limits_of p)) ps

pub limits_finer : (h : History) (x : MfrrSecond) → mfrr.limits_at first_figures h x ≡ in_finer (limits_at h x)
unfolding mfrr.limits_at mfrr.spanned limits_at
limits_finer h x =
    let s = setpoint_at h x in
    let p = phase_now h x in
    let t = length h in
    let ps = left.counting t (left.leftovers (x ∷ h)) in
    ap (λ (m : Limits). span_all m (map (limits.limits_of first_figures) ps)) ((λ i. span (point_finer s i) (of_finer p i)) ∙ span_finer (point s) (limits_of p))
    ∙ all_finer (span (point s) (limits_of p)) ps
    ∙ ap (λ (ls : List Limits). in_finer (span_all (span (point s) (limits_of p)) ls)) (sym (ap (counting t) (all_hold (x ∷ h)) ∙ same_count t (left.leftovers (x ∷ h))))
