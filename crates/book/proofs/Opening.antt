-- A fresh book opened under a sheet, by the sheet's number. Assumes nothing.
use Rattle.std.proofs.Common.{◌≡◌, refl, sym, ◌∙◌, ℕ, arith}
use Rattle.refusals.specs.declared.Refusal.{Refusal}
use Rattle.refusals.specs.Refusals.{number_of, Given, Refused}
use Rattle.refusals.proofs.Laws.{Positive, positive, number_positive, refused_by, not_zero}
use Rattle.sheet.specs.declared.Sheet.{Sheet}
use Rattle.sheet.specs.Sheet.{default_sheet, sheet_number}
use Rattle.sheet.proofs.Ranges.{in_range, ranged}
use Rattle.book.specs.declared.Book.{Book}
use Rattle.book.specs.State.{fresh, Ready}
use Rattle.book.specs.HandOver.{Opened}
use Rattle.book.specs.Open.{open_in, open_by, opening_in, OpenedUnder, OpenedOrDefault}

-- no other number than 30
thirty : (sh : Sheet) → (sheet_number sh ≡ 0 → ⊥) → sheet_number sh ≡ 30
unfolding sheet_number
thirty sh h = grind arith

module _ (sh : Sheet) where
  pub refused : (r : Refusal) → number_of r ≡ sheet_number sh → OpenedUnder sh (Refused (number_of r))
  unfolding open_in
  refused r e =
      let m : sheet_number sh ≡ 0 → ⊥ = λ z. not_zero r (e ∙ z) in
      record {
        is = sym (refused_by (fresh sh) (number_positive r)) ∙ rw e;
        number = e;
        opened = λ i. absurd (m (ranged sh i));
        refused = λ i. rw e (rw (thirty sh m));
        ready = tt;
      }

  pub opened : {k : Book} → 0 ≡ sheet_number sh → k ≡ fresh sh → Ready k → OpenedUnder sh (Given k)
  unfolding open_in
  opened {k} z f r =
      record {
        is = rw (← z, f);
        number = z;
        opened = λ i. rw f;
        refused = λ i. absurd (i (in_range sh (sym z)));
        ready = r;
      }

-- ---- with a book beside a refusal too

by_positive : (sh : Sheet) {n : ℕ} → Positive n → open_by n sh ≡ record { answer = Refused n; book = fresh default_sheet }
by_positive sh (positive n) = refl

module _ (sh : Sheet) where
  pub opened_under : {k : Book} → OpenedUnder sh (Given k) → OpenedOrDefault sh (record { answer = Opened; book = k })
  unfolding opening_in
  opened_under {k} u =
      let f : k ≡ fresh sh = let g = u.opened (in_range sh (sym u.number)) in cc in
      record {
        is = rw (← u.number, f);
        number = u.number;
        opened = λ i. rw f;
        refused = λ i. absurd (i (in_range sh (sym u.number)));
        ready = u.ready;
      }

  pub refused_under : (r : Refusal) {k : Book} → OpenedUnder sh (Refused (number_of r)) → k ≡ fresh default_sheet → Ready k → OpenedOrDefault sh (record { answer = Refused (number_of r); book = k })
  unfolding opening_in
  refused_under r u f ready =
      let m : sheet_number sh ≡ 0 → ⊥ = λ z. not_zero r (u.number ∙ z) in
      record {
        is = rw f (sym (by_positive sh (number_positive r)) ∙ rw u.number);
        number = u.number;
        opened = λ i. absurd (m (ranged sh i));
        refused = λ i. rw (f, u.number, thirty sh m);
        ready = ready;
      }
