-- An accepted header can be written.
use Rattle.std.proofs.Common.{arith, rules}
use Rattle.block.proofs.Writing.{header_fits}
use Rattle.check_copy.proofs.Copy.{done, read_fields}
use Rattle.check_copy.proofs.copy_header.Goals as goal

pub unwrap-requires : goal.unwrap-requires
unwrap-requires c =
    let f = read_fields c.args.bytes.now _ _ c.in_ok-header.was c.read_header.ensures in
    done _ _ _ _ c.write_header.ensures (header_fits _ _ _ (record { len_is = search rules; owners = omega (arith, f.1, f.0.owners); some = omega (arith, f.2, f.0.some); most = omega (arith, f.2, f.0.most) }))
