-- The handover before a second, and the second after it. Assumes nothing.
use Rattle.std.proofs.Common.{◌≡◌, ℕ, zero, suc, ◌≤◌, true, false, List, [], length, refl, sym, ap, ◌∙◌, arith, eq-eqb, ne_eqb}
use Rattle.refusals.specs.Refusals as answer
use Rattle.refusals.specs.Refusals.{answer_number}
use Rattle.codec.specs.declared.lent.Lent.{Lent}
use Rattle.codec.specs.Lent.{Grown}
use Rattle.codec.proofs.Lents.{both, loosen, none}
use Rattle.book.specs.declared.Book.{Book}
use Rattle.book.specs.Cut.{bytes_back}
use Rattle.book.specs.HandOver.{HandOver, Opened, hand_over_number, handed_over, hand_over_by, hand_over_in, HandedOver}
use Rattle.tally.specs.Tally as tally
use Rattle.line.specs.Line.{sum_text}
use Rattle.line.specs.Widths.{row_room}
use Rattle.report.specs.Kept.{Kept, keep, KeptReady}
use Rattle.report.specs.Running.{Verdict, Accepted, Refused, second_in, Adds}
use Rattle.report.specs.Text.{second_room}
use Rattle.cut.specs.Running.{CutRan, opened_by, handed_in, before_in, judged_in, cut_second_in}
use Rattle.cut_run.specs.declared.Cut.{Cut}
use Rattle.cut_run.specs.Adding.{cut_room, CutAdds}

-- ---- the handover

opens : (k : Book) {r : HandOver} → HandedOver k r → r.answer ≡ Opened → (hand_over_number k.unit.seconds ≡ 0) × (r.book ≡ handed_over k)
unfolding hand_over_in
opens k f e =
    let n : hand_over_number k.unit.seconds ≡ 0 = sym f.number ∙ ap answer_number e in
    (n, ap (λ (h : HandOver). h.book) f.is ∙ rw n)

-- a refusal has its number and leaves the book
refuses_by : (k : Book) (m n : ℕ) → (hand_over_by m k).answer ≡ answer.Refused n → (m ≡ n) × ((hand_over_by m k).book ≡ k) × ((q : Kept) → q.book ≡ k → opened_by m q ≡ record { ran = record { text = sum_text q.book.sums; kept = q; verdict = Refused n }; handed = false })
refuses_by k zero n e = let z : ◌≡◌ {A = ℕ} 0 1 = cc in absurd (omega arith)
refuses_by k (suc m) n e = let z : suc m ≡ n = ap answer_number e in (z, refl, λ q b. rw z)

refused_same : (k : Book) {r : HandOver} {m : ℕ} → HandedOver k r → r.answer ≡ answer.Refused m → r.book ≡ k
unfolding hand_over_in
refused_same k {r} {m} f a =
    let o = refuses_by k (hand_over_number k.unit.seconds) m (ap (λ (h : HandOver). h.answer) (sym f.is) ∙ a) in
    ap (λ (h : HandOver). h.book) f.is ∙ o.1

pub refused_ready : (k : Kept) {r : HandOver} {m : ℕ} → HandedOver k.book r → r.answer ≡ answer.Refused m → KeptReady k → KeptReady (keep r.book k.tally)
refused_ready k f a ready = rw (refused_same k.book f a) ready

module _ (k : Kept) {t u : Lent} (put : Grown row_room t u (sum_text k.book.sums)) where
  pub opened : {r : HandOver} → HandedOver k.book r → r.answer ≡ Opened → Adds row_room t u (keep r.book tally.zero) Accepted (handed_in k).ran × (true ≡ (handed_in k).handed)
  unfolding handed_in
  opened {r} f a =
      let o = opens k.book f a in
      rw o.0 (record { kept = rw o.1; verdict = refl; text = put }, refl)

  pub refused : {r : HandOver} {m : ℕ} → HandedOver k.book r → r.answer ≡ answer.Refused m → Adds row_room t u (keep r.book k.tally) (Refused m) (handed_in k).ran × (false ≡ (handed_in k).handed)
  unfolding handed_in hand_over_in
  refused {r} {m} f a =
      let o = refuses_by k.book (hand_over_number k.book.unit.seconds) m (ap (λ (h : HandOver). h.answer) (sym f.is) ∙ a) in
      rw (o.2 k refl, refused_same k.book f a) (record { kept = refl; verdict = refl; text = put }, refl)

-- ---- before a second

module _ (c : Cut) {t : Lent} (room : t.at ≤ length t.buf.now) where
  quiet : {w : CutRan} → w ≡ record { ran = record { text = []; kept = c.kept; verdict = Accepted }; handed = c.handed } → CutAdds row_room t t c c Accepted w
  quiet e = rw e (record { adds = record { kept = refl; verdict = refl; text = loosen (omega arith) (none t room) }; handed = refl; plan = refl; cut_at = refl })

  pub was_handed : c.handed ≡ true → CutAdds row_room t t c c Accepted (before_in c.at c.kept c.handed)
  unfolding before_in
  was_handed h = quiet (rw h)

  pub not_yet : c.handed ≡ false → (c.kept.book.unit.seconds ≡ c.at → ⊥) → CutAdds row_room t t c c Accepted (before_in c.at c.kept c.handed)
  unfolding before_in
  not_yet h n = quiet (rw (h, ne_eqb _ _ n))

pub hands_over : (c : Cut) → c.handed ≡ false → c.kept.book.unit.seconds ≡ c.at → before_in c.at c.kept c.handed ≡ handed_in c.kept
unfolding before_in
hands_over c h n = rw (h, eq-eqb _ _ n)

-- ---- the second

module _ (c : Cut) (s : List ℕ) where
  pub in_next : c.handed ≡ true → judged_in c.plan c.at c.kept c.handed s ≡ record { ran = second_in c.plan c.kept (bytes_back c.at s); handed = c.handed }
  unfolding judged_in
  in_next h = rw h

  pub in_first_lem : c.handed ≡ false → judged_in c.plan c.at c.kept c.handed s ≡ record { ran = second_in c.plan c.kept s; handed = c.handed }
  unfolding judged_in
  in_first_lem h = rw h

module _ (c : Cut) (s : List ℕ) {d : Cut} {t u : Lent} {v : Verdict} (f : CutAdds row_room t u c d v (before_in c.at c.kept c.handed)) where
  pub stopped : {n : ℕ} → v ≡ Refused n → CutAdds cut_room t u c d v (cut_second_in c.plan c.at c.kept c.handed s)
  unfolding cut_second_in
  stopped a =
      rw (sym f.adds.verdict ∙ a)
      (record {
        adds = record { kept = f.adds.kept; verdict = a; text = loosen (omega arith) f.adds.text };
        handed = f.handed;
        plan = f.plan;
        cut_at = f.cut_at;
      })

  pub went_on : {e : Cut} {x : Lent} {w : Verdict} → v ≡ Accepted → CutAdds second_room u x d e w (judged_in d.plan d.at d.kept d.handed s) → CutAdds cut_room t x c e w (cut_second_in c.plan c.at c.kept c.handed s)
  unfolding cut_second_in
  went_on a g =
      let h = rw (f.plan, f.cut_at, f.adds.kept, f.handed) at g in
      rw (sym f.adds.verdict ∙ a)
      (record {
        adds = record { kept = h.adds.kept; verdict = h.adds.verdict; text = both f.adds.text h.adds.text };
        handed = h.handed;
        plan = g.plan ∙ f.plan;
        cut_at = g.cut_at ∙ f.cut_at;
      })
