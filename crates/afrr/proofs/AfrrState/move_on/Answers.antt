-- The state is the one that the definition says.
use Rattle.std.proofs.Common.{◌≡◌, ◌∷◌, ◌-◌, ℕ, List, length, take, refl, ap, ◌∙◌, rules}
use Rattle.numbers.specs.Order.{max_z, min_z}
use Rattle.power.specs.declared.kilowatts.Kw.{Kw}
use Rattle.sheet.specs.Sheet.{window}
use Rattle.afrr.specs.State.{next_by, next_highest, next_lowest, joining}
use Rattle.afrr.proofs.Moving.{by_max, by_min}
use Rattle.afrr.proofs.Windows.{older_part}
use Rattle.afrr.proofs.AfrrState.move_on.Goals as goal

pub returns : goal.returns
returns c =
    let sh = c.args.sheet.figures in
    let st = c.args.self.now in
    let len : length st.past ≡ window = search rules in
    let past = c.push_newest.ensures ∙ ap (λ (n : ℕ). c.args.s ∷ take (n - 1) st.past) len in
    let now = c.push_newest.new.past in
    let all = older_part (sh.afrr_reaction - 1) window now (search rules) in
    record {
      past = past;
      highest = c.next-self.ensures max_z (λ a b r k. search rules) ∙ ap (λ (l : List Kw). next_by max_z l st.highest) all ∙ by_max sh c.args.sheet.in_range now st.highest ∙ ap (λ (p : List Kw). next_highest sh st.highest p (joining sh p)) past;
      lowest = c.next-self-2.ensures min_z (λ a b r k. search rules) ∙ ap (λ (l : List Kw). next_by min_z l st.lowest) all ∙ by_min sh c.args.sheet.in_range now st.lowest ∙ ap (λ (p : List Kw). next_lowest sh st.lowest p (joining sh p)) past;
      limits = refl;
    }
