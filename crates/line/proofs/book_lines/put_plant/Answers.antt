-- What the calls put, one after the other.
use Rattle.codec.proofs.Lents.{both}
use Rattle.line.specs.Line.{plant_text}
use Rattle.line.proofs.book_lines.put_plant.Goals as goal

pub returns : goal.returns
unfolding plant_text
returns c = both c.put_byte.ensures (both c.put_byte-2.ensures (both c.put_field.ensures (both c.put_field-2.ensures (both c.put_field-3.ensures c.put_field-4.ensures))))
