-- A header that was taken.
use Rattle.check_cut.proofs.Opened.{header_taken}
use Rattle.check_cut.proofs.open.Goals as goal

pub returns : goal.returns
returns c = header_taken c.args.bytes.now c.in_ok-owner.was c.read_header.ensures
