-- The claims of specs/Claims.antt. Assumes nothing.
use Rattle.std.proofs.Common.{◌≡◌, refl, sym, ◌∙◌, Bool, true, false, List, [], ◌∷◌, ◌++◌, append_assoc, append-nil, ℕ, zero, suc, ◌+◌, ◌-◌, ◌<◌, arith, eqb, length, take, drop, length-append}
use Rattle.std.proofs.lemmas.Bool.{eqb-false}
use Rattle.numbers.specs.Rules.{or_else}
use Rattle.sheet.specs.declared.Sheet.{Sheet}
use Rattle.sheet.specs.Sheet.{InRange}
use Rattle.book.specs.Sums.{sums_of}
use Rattle.book.specs.Run.{accepted}
use Rattle.book.proofs.Claims as book
use Rattle.block.specs.Places.{block_size}
use Rattle.block.specs.Header.{header_number, owner_of, seconds_of}
use Rattle.report.specs.declared.Form.{Form}
use Rattle.report.specs.Running as verdict
use Rattle.report.specs.Running.{Verdict}
use Rattle.printed.specs.Printed.{judged_in, number_in, end_text, printed}
use Rattle.standing.specs.Standing.{Standing, start, is_due, bytes_due}
use Rattle.pieces.specs.Pieces.{wanted_by, wanted_in, byte_by, byte_in, bytes_in, last_in}
use Rattle.printed.specs.Claims.{told, joined, seconds_held, SumLine, Claims}
use Rattle.standing.proofs.Steps.{none_left, refused_not_due, due_block}
use Rattle.pieces.proofs.Bytes.{cut, beyond}
use Rattle.printed.proofs.Judged.{all_accepted}
use Rattle.printed.proofs.Told.{whole}

-- ---- any cut

pieces : (ss : List (List ℕ)) (st : Standing) (p : List ℕ) → told st p ss ≡ (bytes_in st p (joined ss)).text ++ last_in (bytes_in st p (joined ss)).standing
unfolding told bytes_in
pieces [] st p = refl
pieces (s ∷ ss) st p = rw (pieces ss (bytes_in st p s).standing (bytes_in st p s).part, cut st p s (joined ss)) (rw append_assoc)

-- ---- no more is wanted

-- fewer bytes than a block has are kept
few_kept : (s : List ℕ) (st : Standing) (p : List ℕ) → length p < block_size → length (bytes_in st p s).part < block_size
unfolding bytes_in
few_kept [] st p h = h
few_kept (b ∷ s) st p h = few_kept s (byte_in st p b).standing (byte_in st p b).part (go (is_due st) (eqb (length p + 1) block_size) refl)
  where
    go : (d w : Bool) → eqb (length p + 1) block_size ≡ w → length (byte_by d w st p b).part < block_size
    go false w e = rw (none_left st (b ∷ [])) (omega arith)
    go true true e = rw (none_left st (p ++ (b ∷ []))) (omega arith)
    go true false e = omega (arith, eqb-false (length p + 1) block_size e, length-append p (b ∷ []))

no_bytes : (st : Standing) (p : List ℕ) → ((bytes_in st p []).text ≡ []) × ((bytes_in st p []).standing ≡ st)
unfolding bytes_in
no_bytes st p = (refl, refl)

-- what bytes add to a standing that was refused
none_count : (st : Standing) {n : ℕ} (s p : List ℕ) → st.verdict ≡ verdict.Refused n → ((bytes_in st p s).text ≡ []) × ((bytes_in st p s).standing ≡ st)
none_count st [] p e = no_bytes st p
none_count st (b ∷ s) p e = rw (beyond st p b s (refused_not_due st e), e) (refl, refl)

-- only then are none wanted
pub wanted_none : (st : Standing) (filled : ℕ) → filled < block_size → wanted_in st filled ≡ 0 → (s p : List ℕ) → ((bytes_in st p s).text ≡ []) × ((bytes_in st p s).standing ≡ st)
unfolding wanted_in
wanted_none st filled h e s p = go st.verdict (is_due st) refl refl e
  where
    go : (v : Verdict) (d : Bool) → st.verdict ≡ v → is_due st ≡ d → wanted_by v d (bytes_due st - filled) ≡ 0 → ((bytes_in st p s).text ≡ []) × ((bytes_in st p s).standing ≡ st)
    go (verdict.Refused n) d q r z = none_count st s p q
    go verdict.Accepted false q r z = absurd (omega (arith, z))
    go verdict.Accepted true q r z = absurd (omega (arith, z, due_block st r))

enough : (sh : Sheet) → InRange sh → (f : Form) (s more : List ℕ) → wanted_in (bytes_in (start sh f) [] s).standing (length (bytes_in (start sh f) [] s).part) ≡ 0 → printed sh f (s ++ more) ≡ printed sh f s
enough sh i f s more e =
    let r = bytes_in (start sh f) [] s in
    let w = wanted_none r.standing (length r.part) (few_kept s (start sh f) [] (omega arith)) e more r.part in
    sym (whole sh i f (s ++ more)) ∙ rw (cut (start sh f) [] s more, w.0, w.1, append-nil) (whole sh i f s)

-- ---- the sum line

sum_line : (sh : Sheet) → InRange sh → (f : Form) (s : List ℕ) → header_number (take block_size s) ≡ 0 → number_in sh f (owner_of (take block_size s)) (seconds_of (take block_size s)) (drop block_size s) ≡ 0 → SumLine sh f s
unfolding printed end_text sums_of
sum_line sh i f s header none =
    let o = owner_of (take block_size s) in
    let t = seconds_of (take block_size s) in
    let j = judged_in sh f o t (drop block_size s) in
    let b = (book.claims sh i (seconds_held s)).balanced in
    let past : j.past ≡ accepted [] [] (seconds_held s) = all_accepted sh f [] [] (seconds_held s) (no_second j.number _ none) in
    record {
      lines = j.text;
      figures = sums_of sh [] (accepted [] [] (seconds_held s));
      text = rw (header, none, past);
      a = refl;
      b = refl;
      «open» = refl;
      due = refl;
      balance = b.balance;
    }
  where
    no_second : (n m : ℕ) → or_else n m ≡ 0 → n ≡ 0
    no_second zero m e = refl
    no_second (suc n) m e = e

pub claims : (sh : Sheet) → InRange sh → Claims sh
claims sh i = record { any_cut = λ f ss. pieces ss (start sh f) [] ∙ whole sh i f (joined ss); enough = enough sh i; sum_line = sum_line sh i }
