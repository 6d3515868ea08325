-- The claims hold. Assumes nothing.
use Rattle.std.proofs.Common.{◌≡◌, refl, ap, ◌∙◌, ◌∷◌}
use Rattle.power.specs.declared.limits.Limits.{Limits}
use Rattle.power.specs.Inward.{published_of}
use Rattle.sheet.specs.Sheet.{first_figures, per_kw}
use Rattle.first_sheet.specs.Grains.{first}
use Rattle.first_sheet.specs.Fcr as FirstFcr
use Rattle.first_sheet.specs.Afrr as FirstAfrr
use Rattle.first_sheet.specs.Mfrr as FirstMfrr
use Rattle.first_sheet.specs.Claims.{in_finer, Claims}
use Rattle.first_sheet.proofs.Finer.{published_same}
use Rattle.first_sheet.proofs.Fcr as fcr
use Rattle.first_sheet.proofs.Afrr as afrr
use Rattle.first_sheet.proofs.Mfrr as mfrr

-- limits that are 1,500 times document 01's are published as those
band_same : (n l : Limits) → n ≡ in_finer l → published_of (per_kw first_figures) n ≡ published_of first l
unfolding first_figures per_kw
band_same n l e = ap (published_of (per_kw first_figures)) e ∙ published_same l

pub claims : Claims
unfolding first_figures per_kw
claims =
    record {
      unit = refl;
      fcr_exact = fcr.limits_finer;
      afrr_exact = afrr.limits_finer;
      mfrr_exact = mfrr.limits_finer;
      fcr = λ h s held. band_same _ (FirstFcr.limits_at h s held) (fcr.limits_finer h s held);
      afrr = λ h x. band_same _ (FirstAfrr.limits_at h x) (afrr.limits_finer (x ∷ h));
      mfrr = λ h x. band_same _ (FirstMfrr.limits_at h x) (mfrr.limits_finer h x);
      figures = fcr.figures;
    }
