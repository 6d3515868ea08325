-- Three places, each with its part.
use Rattle.std.proofs.Common.{rules}
use Rattle.sharing.proofs.Three.{parts_are}
use Rattle.sharing.proofs.shares.parts_of.Goals as goal

pub returns : goal.returns
returns c = parts_are _ _ _ _ _ _ _ (search rules) c.round_down-missing.ensures c.give_extras.ensures
