-- The library writes the digits up to their end.
use Rattle.std.proofs.Common.{refl, ap, length, arith}
use Rattle.codec.proofs.Puts.{kept}
use Rattle.line.specs.Text.{digits}
use Rattle.line.proofs.Printed.{printed_is, placed}
use Rattle.line.proofs.number.put_digits.Goals as goal

pub write_digits-requires : goal.write_digits-requires
write_digits-requires c =
    let same = ap length (printed_is c.args.n (omega arith)) in
    (omega (arith, same, c.count_digits.ensures), omega (arith, c.count_digits.ensures))

pub returns : goal.returns
returns c =
    let same = printed_is c.args.n (omega arith) in
    let e = c.write_digits.ensures in
    let p = placed c.args.lent.now.buf.now c.write_digits.new.buf c.args.lent.now.at c.write_digits.result c.count_digits.result (digits c.args.n) c.count_digits.ensures (omega (arith, c.count_digits.ensures)) (rw same at e.start) (rw same at e.written) e.before in
    record { same = refl; long = kept p; put = p }
