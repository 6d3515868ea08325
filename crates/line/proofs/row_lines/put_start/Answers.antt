-- What the calls put, one after the other.
use Rattle.codec.proofs.Lents.{both}
use Rattle.line.proofs.row_lines.put_start.Goals as goal

pub returns : goal.returns
returns c = both c.put_count.ensures (both c.put_byte.ensures c.put_byte-2.ensures)
