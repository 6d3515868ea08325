-- The claims hold. Assumes nothing.
use Rattle.std.proofs.Common.{[]}
use Rattle.choose_meter.specs.Claims.{Claims}
use Rattle.choose_meter.proofs.Laws.{any_cut}

pub claims : Claims
claims = record { any_cut = any_cut [] }
