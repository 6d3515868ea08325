-- A rise is a fall at the mirror.
use Rattle.std.proofs.Common.{rules}
use Rattle.fcr.proofs.Mirror.{rise_mirror}
use Rattle.fcr.proofs.rise.Goals as goal

pub returns : goal.returns
returns c = (cc (rise_mirror c.args.s.0 c.args.before.0 c.args.sj.0), search rules)
