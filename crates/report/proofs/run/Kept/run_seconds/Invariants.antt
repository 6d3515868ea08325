-- What the seconds so far added, and that all give it and what those give that are left.
use Rattle.std.proofs.Common.{drop}
use Rattle.report.proofs.Seconds.{Left}
use Rattle.report.proofs.run.Kept.run_seconds.Given as goal

abbrev pub invariant-loop-second : goal.invariant-loop-second
invariant-loop-second l = Left l.plan l.fn.self l.seconds l.fn.text l.self l.text (drop l.second-index l.seconds)
