-- What the header's reader answered. Assumes nothing.
use Rattle.std.proofs.Common.{Result, Ok, ◌≡◌, sym, ap, ◌∙◌, List, ℕ, arith}
use Rattle.refusals.specs.declared.Refusal.{Refusal}
use Rattle.refusals.specs.Refusals.{Given}
use Rattle.block.specs.declared.Header.{Header}
use Rattle.block.specs.Header.{header_of, header_says}
use Rattle.block.proofs.Taken.{header_fields, header_zero}
use Rattle.report.specs.declared.Form.TheVariants.{Figures}
use Rattle.check_cut.specs.Running.{Opens}

module _ (s : List ℕ) where
  pub header_taken : {r : Result Header Refusal} {h : Header} → r ≡ Ok h → header_says r ≡ header_of s → Opens s (Given (record { form = Figures; owner = h.owner; seconds = h.seconds }))
  header_taken {h = h} is says =
      let f = header_fields s h.owner h.seconds (sym says ∙ ap header_says is) in
      record { is = rw (header_zero s f.0, f.1, f.2); few = omega (arith, f.0.most, f.2) }
