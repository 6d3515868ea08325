-- The values hold, by computing. Assumes nothing.
use Rattle.std.proofs.Common.{rules}
use Rattle.tally.specs.Tally.{kind_by}
use Rattle.tally.specs.Values.{Values}

pub values : Values
unfolding kind_by
values = search rules
