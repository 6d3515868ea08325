-- The band fits, by the ranges of state and second.
use Rattle.abla.proofs.Ready.{published_fits}
use Rattle.abla.proofs.AblaState.advance.Goals as goal

pub published-requires : goal.published-requires
published-requires c =
    rw (c.limits_on-limits.ensures, c.limits.ensures, c.stage_at-stage.ensures)
    (published_fits c.args.self.now c.requires.0 c.args.x.second c.args.x.fair c.requires.1)
