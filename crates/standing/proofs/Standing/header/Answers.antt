-- A header that was read gives a book's seconds.
use Rattle.standing.proofs.Steps.{few}
use Rattle.standing.proofs.Standing.header.Goals as goal

pub invariant_of-self : goal.invariant_of-self
invariant_of-self c = record { few = few c.args.bytes.now c.in-Ok.is c.read_header.ensures }
