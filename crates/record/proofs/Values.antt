-- The values of specs/Values.antt, by computing. Assumes nothing.
use Rattle.std.proofs.Common.{rules}
use Rattle.codec.specs.Little.{twos_complement}
use Rattle.record.specs.Record.{record_of, moved_back, reading_of, bits_of}
use Rattle.record.specs.Values.{Values}

pub values : Values
unfolding record_of moved_back reading_of bits_of twos_complement
values = search rules
