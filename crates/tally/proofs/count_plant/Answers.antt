-- Kind by kind.
use Rattle.tally.proofs.count_plant.Goals as goal

pub returns : goal.returns
returns c =
    let f = c.count_kind.ensures in
    let a = c.count_kind-2.ensures in
    let m = c.count_kind-3.ensures in
    record {
      is = rw (f.is, a.is, m.is);
      grows = λ t w. record { fcr = f.grows t w.fcr; afrr = a.grows t w.afrr; mfrr = m.grows t w.mfrr };
    }
