-- `all` and the definition test each byte alike.
use Rattle.std.proofs.Common.{rules, tests, refl, ◌∙◌, eqb, ◌&&◌}
use Rattle.std.specs.List.{list_all}
use Rattle.std.proofs.lemmas.Iterator.{YieldsList-from_slice}
use Rattle.std.proofs.lemmas.Iterator.Search.{all_from_yields_List}
use Rattle.std.proofs.lemmas.List.Recursion.{same_from_clauses}
use Rattle.block.specs.Bytes.{all_zero}
use Rattle.block.proofs.bytes.is_zero.Goals as goal

pub returns : goal.returns
unfolding all_zero
returns c =
    let s = c.args.s.now in
    all_from_yields_List (λ b. eqb b 0) _ _ _ c.all.ensures.ran (YieldsList-from_slice s cc) (λ x b q k. search (rules, tests))
    ∙ same_from_clauses (list_all (λ b. eqb b 0)) all_zero (λ b t. eqb b 0 && t) refl (λ _ _. refl) (λ _ _. refl) s
