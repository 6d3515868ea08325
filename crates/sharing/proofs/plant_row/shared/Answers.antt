-- The kinds as they are weighed, and the parts that they make.
use Rattle.std.proofs.Common.{rules}
use Rattle.sharing.proofs.Answer.{fitting, parts_sized}
use Rattle.sharing.proofs.plant_row.shared.Goals as goal

pub share-requires : goal.share-requires
share-requires c =
    rw (c.magnitude.ensures, c.weighed.ensures, c.weighed-2.ensures, c.weighed-3.ensures) (fitting _ _ _ _ _ c.requires.0.within c.requires.1)

pub returns : goal.returns
returns c =
    parts_sized _ _ _ _ _ _ _ c.requires.0 c.requires.1 (search rules) c.magnitude.ensures (rw (c.weighed.ensures, c.weighed-2.ensures, c.weighed-3.ensures) at c.share.ensures)
