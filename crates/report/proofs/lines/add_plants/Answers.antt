-- Three lines are put one after the other, each that which `line` gave.
use Rattle.codec.proofs.Lents.{both}
use Rattle.report.proofs.lines.add_plants.Goals as goal

pub returns : goal.returns
returns g c =
    record {
      u = c.line.result;
      x = c.line-2.result;
      y = c.line-3.result;
      gives_u = c.line.ensures;
      gives_a = c.line-2.ensures;
      gives_b = c.line-3.ensures;
      put = both c.add.ensures (both c.add-2.ensures c.add-3.ensures);
    }
