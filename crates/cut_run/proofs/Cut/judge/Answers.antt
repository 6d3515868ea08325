-- In the first book as it is, in the next one moved back.
use Rattle.std.proofs.Common.{refl}
use Rattle.cut_run.proofs.Handed.{in_first_lem, in_next}
use Rattle.cut_run.proofs.Cut.judge.Goals as goal

pub returns-then-self : goal.returns-then-self
returns-then-self c =
    rw (in_next c.args.self.now c.args.bytes.now c.if-self.true)
    (record { adds = rw c.bytes_back-moved.ensures at c.run_second.ensures; handed = refl; plan = refl; cut_at = refl })

pub returns-else-self : goal.returns-else-self
returns-else-self c =
    rw (in_first_lem c.args.self.now c.args.bytes.now c.if-self.false)
    (record { adds = c.run_second-else-self.ensures; handed = refl; plan = refl; cut_at = refl })
