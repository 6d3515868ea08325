-- Plant by plant.
use Rattle.tally.specs.Tally.{tally_with}
use Rattle.tally.proofs.Tally.with_second.Goals as goal

pub returns : goal.returns
unfolding tally_with
returns c =
    let u = c.count_plant.ensures in
    let a = c.count_plant-2.ensures in
    let b = c.count_plant-3.ensures in
    record {
      is = rw (u.is, a.is, b.is);
      grows = λ t w. record { unit = u.grows t w.unit; a = a.grows t w.a; b = b.grows t w.b };
    }
