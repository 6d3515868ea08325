-- The values hold, by computing. Assumes nothing.
use Rattle.std.proofs.Common.{rules}
use Rattle.codec.specs.Little.{twos_complement}
use Rattle.codec.specs.Values.{Values}

pub values : Values
unfolding twos_complement
values = search rules
