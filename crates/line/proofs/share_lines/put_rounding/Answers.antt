-- What the calls put, one after the other.
use Rattle.codec.proofs.Lents.{both}
use Rattle.line.specs.Shares.{rounding_text}
use Rattle.line.proofs.share_lines.put_rounding.Goals as goal

pub returns : goal.returns
unfolding rounding_text
returns c = both c.put_unsigned.ensures (both c.put_unsigned-2.ensures (both c.put_unsigned-3.ensures c.put_unsigned-4.ensures))
