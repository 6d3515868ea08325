-- What the calls put, one after the other.
use Rattle.std.proofs.Common.{arith}
use Rattle.codec.proofs.Lents.{both, loosen}
use Rattle.line.specs.Short.{kind_counts_text}
use Rattle.line.proofs.short_lines.put_kind_counts.Goals as goal

pub returns : goal.returns
unfolding kind_counts_text
returns c =
    let e = c.name.ensures.name in
    let most = c.name.ensures.most in
    rw (← e) (loosen (omega arith) (both c.put_byte.ensures (both c.put_bytes.ensures (both c.put_side_count.ensures (both c.put_side_count-2.ensures c.put_byte-2.ensures)))))
