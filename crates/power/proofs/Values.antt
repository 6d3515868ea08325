-- The values hold, by computing. Assumes nothing.
use Rattle.std.proofs.Common.{refl}
use Rattle.power.specs.Inward.{upper_kw, lower_kw}
use Rattle.power.specs.Values.{Values}

pub values : Values
unfolding upper_kw lower_kw
values = assumption refl
