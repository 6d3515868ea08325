-- What the calls put, one after the other.
use Rattle.codec.proofs.Lents.{both}
use Rattle.line.specs.Text.{unsigned}
use Rattle.line.proofs.number.put_unsigned.Goals as goal

pub returns : goal.returns
unfolding unsigned
returns c = both c.put_byte.ensures c.put_count.ensures
