-- A line in the rest of the buffer is text put there.
use Rattle.std.proofs.Common.{refl}
use Rattle.codec.proofs.Puts.{kept}
use Rattle.report.proofs.Adding.{room_most, written, put_in_rest}
use Rattle.report.proofs.lines.add.Goals as goal

pub unwrap-n-requires : goal.unwrap-n-requires
unwrap-n-requires c = let w = written c.args.text.now.at c.args.text.now.buf.now c.requires (room_most c.args.line) c.write.ensures in rw w

pub returns : goal.returns
returns c =
    let put = put_in_rest c.requires (room_most c.args.line) c.unwrap-n.ensures c.write.ensures in
    record { same = refl; long = kept put; put = put }
