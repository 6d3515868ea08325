-- A number for each rule in turn.
use Rattle.std.proofs.Common.{eq-eqb, ne_eqb, ◌≡◌, refl, sym, ap, ◌∙◌, Bool, true, false, List, [], ◌∷◌, ℕ, length, Result, Ok, Err, IfOk}
use Rattle.refusals.specs.declared.Refusal.{Refusal}
use Rattle.refusals.specs.Refusals.{Given, number_of, answer_by, number_in}
use Rattle.refusals.proofs.Laws.{number_positive, refused_by}
use Rattle.numbers.specs.Rules.{refuse, first, differ}
use Rattle.sheet.specs.declared.Sheet.{Sheet}
use Rattle.sheet.specs.declared.fair.FairSheet.{FairSheet}
use Rattle.sheet.specs.Sheet.{percent_out, range_out, fcr_reaction_out, afrr_reaction_out, sheet_number}
use Rattle.reserve_sheet.specs.Form.{sheet_size, sheet_of, figure_out, spare_set, form_number, figures_told, read_of}
use Rattle.reserve_sheet.proofs.read.Goals as goal

-- where the bytes are right, the number is the sheet's
of_figures : (s : List ℕ) → length s ≡ sheet_size → spare_set s ≡ false → form_number s ≡ sheet_number (sheet_of s)
unfolding form_number figure_out sheet_number
of_figures s h e =
    let sh = sheet_of s in
    rw (eq-eqb (length s) sheet_size h, e) (go (percent_out sh) (range_out sh) (fcr_reaction_out sh) (afrr_reaction_out sh))
  where
    figures : Bool → Bool → Bool → Bool → ℕ
    figures p q r t = first (refuse 30 p ∷ refuse 30 q ∷ refuse 30 r ∷ refuse 30 t ∷ [])

    go : (p q r t : Bool) → first (refuse 30 (differ (figures p q r t) 0) ∷ []) ≡ figures p q r t
    go true q r t = refl
    go false true r t = refl
    go false false true t = refl
    go false false false true = refl
    go false false false false = refl

pub returns-in_default : goal.returns-in_default
unfolding read_of form_number
returns-in_default c = rw (ne_eqb (length c.args.s.now) sheet_size c.in_default.ensures.1)

pub returns-then-is_spare_set : goal.returns-then-is_spare_set
unfolding read_of form_number
returns-then-is_spare_set c =
    let whole = c.in-Ok.ensures.1 in
    rw (← whole.same, eq-eqb (length c.in-Ok.s.now) sheet_size (ap length whole.same ∙ whole.long), sym c.is_spare_set.ensures ∙ c.if-is_spare_set.true)

-- what is said where the bytes are right
said : (s : List ℕ) (sh : Sheet) (r : Result FairSheet Refusal) → sh ≡ sheet_of s → form_number s ≡ sheet_number (sheet_of s) → number_in r ≡ sheet_number sh → IfOk r (λ x. x.figures ≡ sh) → figures_told r ≡ read_of s
unfolding read_of
said s sh (Ok x) e f n k = let z : form_number s ≡ 0 = f ∙ ap sheet_number (sym e) ∙ sym n in rw z (ap Given (k ∙ e))
said s sh (Err x) e f n k = let m : number_of x ≡ form_number s = n ∙ ap sheet_number e ∙ sym f in sym (refused_by (sheet_of s) (number_positive x)) ∙ ap (λ n. answer_by n (sheet_of s)) m

pub returns : goal.returns
returns c =
    let whole = c.in-Ok.ensures.1 in
    let size = ap length whole.same ∙ whole.long in
    rw (← whole.same) (said c.in-Ok.s.now _ _ c.sheet_of.ensures (of_figures c.in-Ok.s.now size (sym c.is_spare_set.ensures ∙ c.if-is_spare_set.false)) c.try_from.ensures.0 c.try_from.ensures.1)
