-- What the library prints of a number is its text. Assumes nothing.
use Rattle.std.proofs.Common.{◌≡◌, ℕ, suc, ◌+◌, ◌^◌, ◌<◌, ◌≤◌, List, ◌∷◌, ◌++◌, length, take, drop, take-append-drop, ℤ, pos, negsuc, nat_abs, sym, ap, ◌∙◌, arith, lt-ltb, le-ltb}
use Rattle.std.specs.Fmt.{decimal as printed, signed_decimal}
use Rattle.std.proofs.lemmas.Fmt.{AppendsLastDigit, decimal_from_appends, length-decimal-le_succ}
use Rattle.codec.specs.Put.{Put}
use Rattle.line.specs.Text.{digits_in, digits, decimal}

last_digit : AppendsLastDigit digits_in
unfolding digits_in
last_digit = record { one = λ k n h. rw (lt-ltb n 10 h); more = λ k n h. rw (le-ltb n 10 h) }

pub printed_is : (n : ℕ) → n < 2 ^ 64 → printed n ≡ digits n
unfolding digits
printed_is n h = sym (decimal_from_appends digits_in last_digit (suc n) n h (omega (arith, length-decimal-le_succ n h)))

pub signed_is : (z : ℤ) → nat_abs z < 2 ^ 64 → signed_decimal z ≡ decimal z
unfolding decimal
signed_is (pos n) h = printed_is n h
signed_is (negsuc n) h = ap (λ (l : List ℕ). 45 ∷ l) (printed_is _ h)

-- a text written up to its end, where that is as far on as the text is long
pub placed : (b e : List ℕ) (at r n : ℕ) (text : List ℕ) → n ≡ length text → at + n ≤ length b → r + length text ≡ at + n → drop r e ≡ text ++ drop (at + n) b → take r e ≡ take r b → Put (length text) b e at (at + n) text
placed b e at r n text size room start written before =
    let same : r ≡ at = omega (arith, start, size) in
    record {
      bytes = sym (take-append-drop r e) ∙ (λ i. before i ++ written i) ∙ (λ i. take (same i) b ++ (text ++ drop (at + size i) b));
      next = ap (λ (k : ℕ). at + k) size;
      most = omega (arith, size);
      room = room;
    }
