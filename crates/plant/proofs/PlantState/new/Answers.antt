-- Each kind's fresh state is the one that no second leaves.
use Rattle.std.proofs.Common.{arith}
use Rattle.plant.specs.State.{state_of}
use Rattle.plant.proofs.PlantState.new.Goals as goal

pub returns : goal.returns
unfolding state_of
returns c = λ sh r. (
  λ i. record {
    seconds = 0;
    last_status = 0;
    fcr = c.new.ensures.0 i;
    afrr = c.new-2.ensures.is sh i;
    mfrr = c.new-3.ensures.is sh i;
  },
  record {
    sheet = r;
    count = omega arith;
    fcr = c.new.ensures.1;
    afrr = c.new-2.ensures.ready sh;
    mfrr = c.new-3.ensures.ready sh;
  },
)
