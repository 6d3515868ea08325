-- The place is the one that the library's `position` finds.
use Rattle.std.proofs.Common.{rules, tests}
use Rattle.std.proofs.lemmas.Iterator.{YieldsList-from_slice}
use Rattle.std.proofs.lemmas.Iterator.Search.{position_from_yields_List}
use Rattle.afrr.proofs.Places.{test, found}
use Rattle.afrr.proofs.Moving.{placed}
use Rattle.afrr.proofs.Extreme.of.Goals as goal

pub returns : goal.returns
returns g c = λ op is.
    let xs = c.args.setpoints.now in
    let v = c.outermost-value.result.0 in
    let r = position_from_yields_List (test v xs) _ _ c.position.result c.position.ensures.ran (YieldsList-from_slice xs c.iter.ensures.rest) (λ x b q k. search (rules, tests)) in
    placed _ _ xs _ (c.outermost-value.ensures op is) (rw c.unwrap_or-place.ensures (found v xs c.position.result r))
