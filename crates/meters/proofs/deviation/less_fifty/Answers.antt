-- Exact where the frequency is within its range.
use Rattle.std.proofs.Common.{refl}
use Rattle.std.proofs.lemmas.Float.{T_from_true}
use Rattle.meters.proofs.Fifty.{exact_case}
use Rattle.meters.proofs.deviation.less_fifty.Goals as goal

pub returns : goal.returns
returns c = record { is = refl; exact_case = exact_case c.args.f (T_from_true _ c.well_formed.0.1) }
