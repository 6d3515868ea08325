-- Appending twice is appending once: `both` chains what two calls leave, so that a line's proof is a chain of its parts.
-- Assumes nothing.
use Rattle.std.proofs.Common.{◌≡◌, sym, ap, ◌∙◌, List, [], ◌++◌, append_assoc, ℕ, ◌+◌, ◌≤◌, add_assoc, add-zero, zero-add, arith, length, take, drop, length-append, length-take, length-drop, take-append-drop, take_at, drop_at, drop-drop, length-take-le}
use Rattle.codec.specs.Put.{over, Put}

over_over : (b : List ℕ) (at : ℕ) (x y : List ℕ) → at ≤ length b → over (over b at x) (at + length x) y ≡ over b at (x ++ y)
over_over b at x y h =
    let hd = take at b in
    let n = at + length x in
    let len : length (hd ++ x) ≡ n = length-append hd x ∙ ap (λ (k : ℕ). k + length x) (length-take-le at b h) in
    let whole : over b at x ≡ (hd ++ x) ++ drop n b = sym (append_assoc hd x (drop n b)) in
    let front : take n (over b at x) ≡ hd ++ x = ap (take n) whole ∙ take_at (hd ++ x) (drop n b) n len in
    let back : drop (n + length y) (over b at x) ≡ drop (n + length y) b =
    sym (drop-drop (length y) n (over b at x)) ∙ ap (λ (l : List ℕ). drop (length y) (drop n l)) whole ∙ ap (drop (length y)) (drop_at (hd ++ x) (drop n b) n len) ∙ drop-drop (length y) n b in
    ap (λ (l : List ℕ). l ++ (y ++ drop (n + length y) (over b at x))) front
    ∙ ap (λ (l : List ℕ). (hd ++ x) ++ (y ++ l)) back
    ∙ append_assoc hd x (y ++ drop (n + length y) b)
    ∙ ap (λ (l : List ℕ). hd ++ l) (sym (append_assoc x y (drop (n + length y) b)))
    ∙ ap (λ (k : ℕ). hd ++ ((x ++ y) ++ drop k b)) (add_assoc at (length x) (length y) ∙ ap (λ (k : ℕ). at + k) (sym (length-append x y)))

-- the buffer is as long as it was
pub kept : {m at r : ℕ} {b e text : List ℕ} → Put m b e at r text → length e ≡ length b
kept {at = at} {b = b} {text = text} f =
    let n = f.next in
    let h = f.room in
    ap length f.bytes ∙ simp (length-append, length-take, length-drop) (omega arith)

pub both : {m k at p r : ℕ} {b c e x y : List ℕ} → Put m b c at p x → Put k c e p r y → Put (m + k) b e at r (x ++ y)
both {at = at} {p = p} {b = b} {x = x} {y = y} f g =
    let h : at ≤ length b = omega (arith, f.next, f.room) in
    let len : length (x ++ y) ≡ length x + length y = length-append x y in
    let same = kept f in
    record {
      bytes = g.bytes ∙ ap (λ (l : List ℕ). over l p y) f.bytes ∙ ap (λ (n : ℕ). over (over b at x) n y) f.next ∙ over_over b at x y h;
      next = omega (arith, f.next, g.next);
      most = omega (arith, f.most, g.most);
      room = omega (arith, g.room);
    }

-- a bound that is wider
pub loosen : {m n at r : ℕ} {b e x : List ℕ} → m ≤ n → Put m b e at r x → Put n b e at r x
loosen h f = record { bytes = f.bytes; next = f.next; most = omega (arith, f.most); room = f.room }

-- of a text whose length has a bound
pub sized : {m n at r : ℕ} {b e x : List ℕ} → length x ≤ n → Put m b e at r x → Put n b e at r x
sized h f = record { bytes = f.bytes; next = f.next; most = omega (arith, f.next); room = f.room }

pub none : (b : List ℕ) (at : ℕ) → at ≤ length b → Put 0 b b at at []
none b at h = record { bytes = sym (ap (λ (n : ℕ). take at b ++ drop n b) (add-zero at) ∙ take-append-drop at b); next = omega arith; most = omega arith; room = h }

-- what was put at the front stands there
pub front : {m r : ℕ} {b e text : List ℕ} → Put m b e 0 r text → take r e ≡ text
front {b = b} {text = text} f =
    (λ i. take (f.next i) (f.bytes i)) ∙ take_at text (drop (0 + length text) b) (0 + length text) (sym (zero-add (length text)))
