-- Demand 3: every list of book seconds. Assumes nothing.
use Rattle.std.proofs.Common.{◌≡◌, refl, sym, ap, ◌∙◌, subst, List, [], ◌∷◌, ℕ, zero, suc, ◌%◌, ◌≤◌, add-one, arith, ◌+ℤ◌, length}
use Rattle.std.proofs.lemmas.Int.{ints}
use Rattle.std.proofs.lemmas.Bool.Decides.{nat_tests}
use Rattle.std.proofs.lemmas.List.{length-map}
use Rattle.sheet.specs.declared.Sheet.{Sheet}
use Rattle.sheet.specs.Sheet.{InRange}
use Rattle.record.specs.Record.{most_seconds}
use Rattle.mfrr.specs.Signal.{quarter_hour}
use Rattle.plant.proofs.Past as plant
use Rattle.book.specs.declared.Book.{Book}
use Rattle.book.specs.Seconds.{BookSecond, History, Closed, unit_bytes, past_of, closed_of}
use Rattle.book.specs.Refusals.{number_at, AllClosed, Accepted, grown_by, grown}
use Rattle.book.specs.Rows.{unit_row_at, pool_row_at, a_row_at, b_row_at, answer_at}
use Rattle.book.specs.Sums.{sum_a, sum_b, sum_open, sum_due, sums_of}
use Rattle.book.specs.State.{fresh, state_of, sums_with, SumsReady}
use Rattle.book.specs.HandOver.{hand_over_number, hand_over_by, hand_over_in, closed_by, closed_handed, past_by, past_handed}
use Rattle.book.specs.Run.{book_after, accepted}
use Rattle.book.specs.Claims.{AtSecond, EachSecond, Balanced, ListHolds, Claims, ChainHolds, BookClaims}
use Rattle.book.proofs.Sizes.{sums_none, sums_more, sums_fit}
use Rattle.book.proofs.Past.{cleared, unit_accepted, still_accepted, over_past}
use Rattle.book.proofs.Holds.{rows_hold, summed}
use Rattle.book.specs.Fresh.{FreshBook}
use Rattle.book.proofs.Cut.{cut}
use Rattle.book.proofs.Handing.{handed, number_is, at_hand_over}
use Rattle.book.proofs.Balance.{second_balance}

-- ---- the book after a list

lasts : (sh : Sheet) → InRange sh → (ss : List BookSecond) (c : Closed) (h : History) → Accepted c h → book_after (state_of sh c h) ss ≡ state_of sh c (accepted c h ss)
unfolding book_after accepted
lasts sh i [] c h a = refl
lasts sh i (s ∷ ss) c h a = let o = over_past sh i c h a s in rw o.book (lasts sh i ss c (grown c h s) o.stays)

all_accepted : (ss : List BookSecond) (c : Closed) (h : History) → Accepted c h → Accepted c (accepted c h ss)
unfolding accepted
all_accepted [] c h a = a
all_accepted (s ∷ ss) c h a = all_accepted ss c (grown c h s) (still_accepted c h a s)

-- ---- the balance

balance : (sh : Sheet) → InRange sh → (c : Closed) (h : History) → Accepted c h → sum_a sh c h +ℤ sum_b sh c h +ℤ sum_open sh c h ≡ sum_due h
unfolding Accepted
balance sh r c [] a = refl
balance sh r c (s ∷ h) a = omega (arith, ints, balance sh r c h a.1, second_balance sh r c h s a.1 (cleared c h s a.0))

-- ---- the sums fit

sums_ready : (sh : Sheet) → InRange sh → (c : Closed) (h : History) → Accepted c h → SumsReady (length h) (sums_of sh c h)
unfolding Accepted sums_of sums_with
sums_ready sh i c [] a = sums_none 0
sums_ready sh i c (s ∷ h) a =
    subst (λ (n : ℕ). SumsReady n (sums_of sh c (s ∷ h))) (add-one (length h))
    (sums_more (length h) (sums_of sh c h) (unit_row_at sh c h s) (a_row_at sh c h s) (b_row_at sh c h s) _ (sums_ready sh i c h a.1) (summed sh i c h s a.1 (cleared c h s a.0)))

counted : (c : Closed) (h : History) → Accepted c h → length h ≤ most_seconds
counted c h a = subst (λ (n : ℕ). n ≤ most_seconds) (length-map h _) (plant.counted (closed_of unit_bytes c) (past_of unit_bytes h) (unit_accepted c h a))

-- ---- every second

grown_same : (c : Closed) (h : History) (s : BookSecond) → (number_at c h s ≡ 0 → ⊥) → grown c h s ≡ h
unfolding grown
grown_same c h s n = go (number_at c h s) n
  where
    go : (m : ℕ) → (m ≡ 0 → ⊥) → grown_by m s h ≡ h
    go zero q = absurd (q refl)
    go (suc m) q = refl

at_second : (sh : Sheet) → InRange sh → (c : Closed) (h : History) → Accepted c h → (s : BookSecond) → AtSecond sh (state_of sh c h) c h s
unfolding answer_at
at_second sh i c h a s =
    let o = over_past sh i c h a s in
    record {
      past = refl;
      over = o;
      accepted_rows = λ e. let d = cleared c h s e in o.answer ∙ rw (d.form, d.unit, d.a, d.b);
      rows_hold = λ e. rows_hold sh i c h s a (cleared c h s e);
      refused_same = λ n. o.book ∙ ap (state_of sh c) (grown_same c h s n);
    }

each : (sh : Sheet) → InRange sh → (ss : List BookSecond) (c : Closed) (h : History) → Accepted c h → EachSecond sh (state_of sh c h) c h ss
each sh i [] c h a = tt
each sh i (s ∷ ss) c h a =
    let o = over_past sh i c h a s in (
      at_second sh i c h a s,
      subst (λ (k : Book). EachSecond sh k c (grown c h s) ss) (sym o.book) (each sh i ss c (grown c h s) o.stays),
    )

-- ---- for every list of book seconds from a fresh book, refused ones included

pub fresh_is : (sh : Sheet) → state_of sh [] [] ≡ fresh sh
unfolding fresh state_of sums_of
fresh_is sh = refl

pub none_accepted : Accepted [] []
unfolding Accepted AllClosed
none_accepted = tt

balanced : (sh : Sheet) → InRange sh → (c : Closed) (h : History) → Accepted c h → Balanced sh c h (state_of sh c h)
unfolding state_of sums_of
balanced sh i c h a =
    record {
      balance = balance sh i c h a;
      kept_a = refl;
      kept_b = refl;
      kept_open = refl;
      kept_due = refl;
      sums_fit = sums_fit (length h) (sums_of sh c h) (counted c h a) (sums_ready sh i c h a);
      last = refl;
      accepted_all = a;
    }

pub list_holds : (sh : Sheet) → InRange sh → (c : Closed) (h : History) → Accepted c h → (ss : List BookSecond) → ListHolds sh (state_of sh c h) c h ss
list_holds sh i c h a ss =
    record {
      balanced = rw (lasts sh i ss c h a) (balanced sh i c (accepted c h ss) (all_accepted ss c h a));
      each = each sh i ss c h a;
    }

pub claims : (sh : Sheet) → InRange sh → (ss : List BookSecond) → Claims sh ss
claims sh i ss = subst (λ (k : Book). ListHolds sh k [] [] ss) (fresh_is sh) (list_holds sh i [] [] none_accepted ss)

-- ---- and for every chain of lists and handovers

pub whole : (t : ℕ) → hand_over_number t ≡ 0 → t % quarter_hour ≡ 0
unfolding hand_over_number
whole t e = grind (arith, nat_tests)

-- what goes on after a handover was left by accepted seconds too
module _ (sh : Sheet) (c : Closed) (h : History) (a : Accepted c h) where
  next_book : (hand_over_in (state_of sh c h)).book ≡ state_of sh (closed_handed c h) (past_handed h)
  unfolding closed_handed past_handed
  next_book = rw (number_is sh c h) (go (hand_over_number (length h)))
    where
      go : (n : ℕ) → (hand_over_by n (state_of sh c h)).book ≡ state_of sh (closed_by n c h) (past_by n h)
      go zero = handed sh c h
      go (suc n) = refl

  pub next_accepted : Accepted (closed_handed c h) (past_handed h)
  unfolding closed_handed past_handed Accepted AllClosed
  next_accepted = go (hand_over_number (length h)) refl
    where
      go : (n : ℕ) → hand_over_number (length h) ≡ n → Accepted (closed_by n c h) (past_by n h)
      go zero e = (whole (length h) e, a)
      go (suc n) e = a

chain_holds : (sh : Sheet) → InRange sh → (chain : List (List BookSecond)) (c : Closed) (h : History) → Accepted c h → ChainHolds sh (state_of sh c h) c h chain
chain_holds sh i [] c h a = tt
chain_holds sh i (ss ∷ chain) c h a =
    let later = accepted c h ss in
    let all = all_accepted ss c h a in (
      list_holds sh i c h a ss,
      rw (lasts sh i ss c h a) (at_hand_over sh c later),
      rw (lasts sh i ss c h a, next_book sh c later all) (chain_holds sh i chain (closed_handed c later) (past_handed later) (next_accepted sh c later all)),
    )

pub chains : (sh : Sheet) → InRange sh → (chain : List (List BookSecond)) → ChainHolds sh (fresh sh) [] [] chain
chains sh i chain = subst (λ (k : Book). ChainHolds sh k [] [] chain) (fresh_is sh) (chain_holds sh i chain [] [] none_accepted)

fresh_book : (sh : Sheet) (h : History) → FreshBook sh h
unfolding number_at unit_row_at pool_row_at state_of Accepted
fresh_book sh h =
    record { number = λ s. refl; unit_row = λ s. refl; pool_row = λ p s. refl; state = refl; accepted = λ s. ((λ a. a), (λ a. a)) }

pub book_claims : (sh : Sheet) → InRange sh → BookClaims sh
book_claims sh i =
    record { every_list = claims sh i; every_chain = chains sh i; fresh_book = fresh_book sh; every_cut = λ early late whole a. cut sh i early whole late a }
