-- What the calls put, one after the other.
use Rattle.std.proofs.Common.{arith}
use Rattle.codec.proofs.Lents.{both, loosen}
use Rattle.line.specs.Short.{outside_text}
use Rattle.line.proofs.short_lines.put_outside.Goals as goal

pub returns : goal.returns
unfolding outside_text
returns c =
    let e = c.name.ensures.name in
    let most = c.name.ensures.most in
    rw (← e) (loosen (omega arith) (both c.put_start.ensures (both c.put_bytes.ensures (both c.put_bytes-2.ensures (both c.put_count.ensures c.put_byte.ensures)))))
