-- A line written into the rest of a lent buffer is text put where that rest starts. Assumes nothing.
use Rattle.std.proofs.Common.{◌≡◌, ℕ, ◌+◌, ◌-◌, ◌≤◌, List, ◌++◌, length, take, drop, Result, Ok, sym, ap, ◌∙◌, arith, append-nil, length-drop, take_all, drop-drop, le-ltb}
use lib.Seq.{drop-length}
use borrow.Rule.Slice.PartMut.{mid_of, put_mid, Post-is}
use Rattle.refusals.specs.declared.Refusal.{Refusal}
use Rattle.line.proofs.Lines.{taken}
use Rattle.line.specs.Lined.{Lined, length_in}
use Rattle.codec.specs.Put.{Put}
use Rattle.line.specs.Widths.{row_room}
use Rattle.report.specs.declared.lines.TextLine.{TextLine}
use Rattle.report.specs.declared.lines.TextLine.TheVariants as text
use Rattle.report.specs.Text.{room_of}

pub room_most : (t : TextLine) → room_of t ≤ row_room
room_most (text.Second t u a b) = omega arith
room_most (text.Plant x) = omega arith
room_most (text.Sums s) = omega arith
room_most (text.Refusal n t) = omega arith
room_most (text.Short x) = omega arith
room_most (text.Counts letter c) = omega arith
room_most (text.Shares x) = omega arith

-- the rest of the buffer from byte `at` on
rest_is : (at m : ℕ) (b : List ℕ) → at + m ≤ length b → mid_of at (length b - at) b ≡ drop at b
rest_is at m b fits = let len = length-drop at b in take_all (length b - at) (drop at b) (omega arith)

-- it has room for the line
pub written : (at : ℕ) (b : List ℕ) {least m : ℕ} {e text : List ℕ} {r : Result ℕ Refusal} → at + m ≤ length b → least ≤ m → Lined least (mid_of at (length b - at) b) e r text → r ≡ Ok (length text)
written at b {least} {m} fits small f =
    let len = length-drop at b in
    let rest = rest_is at m b fits in
    let size : length (mid_of at (length b - at) b) ≡ length (drop at b) = ap length rest in
    taken (omega arith) f

pub put_in_rest : {least m at n : ℕ} {b e text : List ℕ} {r : Result ℕ Refusal} → at + m ≤ length b → least ≤ m → r ≡ Ok n → Lined least (mid_of at (length b - at) b) e r text → Put m b (put_mid at (length b - at) b e) at (at + n) text
put_in_rest {least} {m} {at} {n} {b} {e} {text} {r} fits small is f =
    let len = length-drop at b in
    let mid = rest_is at m b fits in
    let count : n ≡ length text = ap length_in (sym is ∙ written at b fits small f) in
    let long : least ≤ length (drop at b) = omega arith in
    let g : Lined least (drop at b) e r text = rw mid at f in
    let buffer : e ≡ text ++ drop (length text) (drop at b) = rw (le-ltb (length (drop at b)) least long) at g.buffer in
    let post = Post-is at (length b) b (omega arith) ∙ drop-length b in
    record {
      bytes = ap (λ (l : List ℕ). take at b ++ (e ++ l)) post ∙ ap (λ (l : List ℕ). take at b ++ l) (append-nil e ∙ buffer) ∙ ap (λ (l : List ℕ). take at b ++ (text ++ l)) (drop-drop (length text) at b);
      next = omega arith;
      most = omega (arith, g.most, ap length_in is);
      room = omega (arith, g.within, ap length_in is);
    }
