-- T = 0, and T above it, of the tolerances that count.
use Rattle.std.proofs.Common.{None, rules, arith}
use Rattle.sharing.proofs.Three.{counted, all_first, all_parts}
use Rattle.sharing.proofs.shares.share.Goals as goal

pub returns-then-total-eq0 : goal.returns-then-total-eq0
returns-then-total-eq0 c =
    let m = c.map-tolerances.ensures.items in
    all_first c.args.error c.args.kinds _ _ (counted _ _ (search rules) (λ i q. search (m.at i None 0, rules)))
    c.total-total.ensures _ c.if-total-eq0.true c.to_first.ensures

pub returns : goal.returns
returns c =
    let m = c.map-tolerances.ensures.items in
    all_parts c.args.error c.args.kinds _ _ (counted _ _ (search rules) (λ i q. search (m.at i None 0, rules)))
    c.total-total.ensures (omega arith) _ c.parts_of.ensures
