-- What the calls put, one after the other.
use Rattle.codec.proofs.Lents.{both}
use Rattle.line.specs.Shares.{roundings_text}
use Rattle.line.proofs.share_lines.put_roundings.Goals as goal

pub returns : goal.returns
unfolding roundings_text
returns c = both c.put_rounding.ensures (both c.put_rounding-2.ensures c.put_rounding-3.ensures)
