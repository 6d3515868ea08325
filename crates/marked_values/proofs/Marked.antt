-- The marked values hold: each kind's crate has shown its own. Assumes nothing.
use Rattle.fcr.proofs.Values as fcr
use Rattle.mfrr.proofs.Values as mfrr
use Rattle.sharing.proofs.Values as sharing
use Rattle.marked_values.specs.Marked.{Marked}

pub marked : Marked
marked =
    record {
      fcr = fcr.marked;
      mfrr = (mfrr.values).marked;
      sharing = (sharing.values).marked;
    }
