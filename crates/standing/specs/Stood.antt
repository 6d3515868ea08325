-- What the code's standing says.
use Rattle.standing.specs.declared.Standing.{Standing as Held}
use Rattle.standing.specs.Standing.{Standing, verdict_in}

abbrev pub stood : Held → Standing
stood h = record { plan = h.plan; next = h.next; book = h.kept.book; tally = h.kept.tally; verdict = verdict_in h.verdict }
