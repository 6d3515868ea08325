-- What the calls put, one after the other.
use Rattle.codec.proofs.Lents.{both}
use Rattle.line.specs.Line.{kind_text}
use Rattle.line.proofs.row_lines.put_kind.Goals as goal

pub returns : goal.returns
unfolding kind_text
returns c = both c.put_field.ensures (both c.put_field-2.ensures (both c.put_field-3.ensures (both c.put_field-4.ensures c.put_field-5.ensures)))
