-- Under the sheet with document 01's figures (the default one, its least range set to 5,000) the definitions give what they gave before there was a sheet
-- (W9), for every past and every second. The proof is `claims` of proofs/Claims.antt.
use Rattle.std.specs.Prelude.{ℕ, ◌*◌, ◌≡◌, List, ℤ, pos, ◌*ℤ◌}
use Rattle.power.specs.declared.kilowatts.Kw.{Kw}
use Rattle.power.specs.declared.limits.Limits.{Limits}
use Rattle.power.specs.Units.{grains}
use Rattle.sheet.specs.Sheet.{first_figures, per_kw}
use Rattle.fcr.specs.Factor.{weight_factor}
use Rattle.fcr.specs.Band as fcr
use Rattle.afrr.specs.declared.Second.{Second}
use Rattle.afrr.specs.Band as afrr
use Rattle.mfrr.specs.Signal.{History, MfrrSecond}
use Rattle.mfrr.specs.Band as mfrr
use Rattle.first_sheet.specs.Grains.{first}
use Rattle.first_sheet.specs.Fcr as FirstFcr
use Rattle.first_sheet.specs.Afrr as FirstAfrr
use Rattle.first_sheet.specs.Mfrr as FirstMfrr

-- the sheet's grains that make one of document 01's
abbrev pub finer : ℕ
finer = 1500

-- limits in document 01's grains, in the sheet's
abbrev pub in_finer : Limits → Limits
in_finer l = record { lower = grains (l.lower.0 *ℤ pos finer); upper = grains (l.upper.0 *ℤ pos finer) }

pub record Claims : Type 0 where
  pub unit : per_kw first_figures ≡ finer * first
  -- the exact limits, those that are carried among them
  pub fcr_exact : (h : List Kw) (s held : Kw) → fcr.limits_at first_figures h s held ≡ in_finer (FirstFcr.limits_at h s held)
  pub afrr_exact : (h : List Second) → afrr.last_limits first_figures h ≡ in_finer (FirstAfrr.last_limits h)
  pub mfrr_exact : (h : History) (x : MfrrSecond) → mfrr.limits_at first_figures h x ≡ in_finer (FirstMfrr.limits_at h x)
  -- the published bands
  pub fcr : (h : List Kw) (s held : Kw) → fcr.band_at first_figures h s held ≡ FirstFcr.band_at h s held
  pub afrr : (h : List Second) (x : Second) → afrr.band_at first_figures h x ≡ FirstAfrr.band_at h x
  pub mfrr : (h : History) (x : MfrrSecond) → mfrr.band_at first_figures h x ≡ FirstMfrr.band_at h x
  -- "540 for ages 0 to 15, then 252 at 16, 234 at 17, falling by 18 to 0 at 30" (02, W5)
  pub figures : (a : ℕ) (d : ℤ) → FirstFcr.weight a d ≡ d *ℤ pos (weight_factor a)
