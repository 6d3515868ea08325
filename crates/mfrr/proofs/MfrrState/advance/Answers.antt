-- The band fits, since each limit is no larger than the largest target times the largest factor.
use Rattle.mfrr.proofs.Steps.{published_fits}
use Rattle.mfrr.proofs.MfrrState.advance.Goals as goal

pub published-band-requires : goal.published-band-requires
published-band-requires c =
    let f = published_fits c.args.sheet.figures c.args.sheet.in_range c.args.self.now c.requires in
    (rw (c.per_kw.ensures, c.limits.ensures) f.0, rw (c.per_kw.ensures, c.limits.ensures) f.1)
