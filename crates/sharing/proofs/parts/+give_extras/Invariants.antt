use Rattle.std.proofs.Common.{length}
use Rattle.sharing.proofs.parts.+give_extras.Given as goal

abbrev pub decreases-give_extras : goal.decreases-give_extras
decreases-give_extras l = length l.parts.now
