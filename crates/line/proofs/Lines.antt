-- A line's result and buffer, where there is room for it, from what was put. Assumes nothing.
use Rattle.std.proofs.Common.{◌≡◌, ℕ, ◌≤◌, cond, ltb, List, ◌++◌, length, drop, Result, Ok, Err, ap, ◌∙◌, zero-add, arith, le-ltb}
use Rattle.refusals.specs.declared.Refusal.{Refusal}
use Rattle.refusals.specs.Refusals.{Given, told}
use Rattle.codec.specs.declared.lent.Lent.{Lent}
use Rattle.codec.specs.Lent.{Grown}
use Rattle.line.specs.Lined.{Lined}

-- what `check_room` answers where it turns nothing down
room : (n least : ℕ) → ◌≡◌ {A = ℕ} 0 (cond (ltb n least) 22 0) → least ≤ n
room n least h = grind arith

-- the buffer lent had the bytes b, and e are those that it has at the end
pub written : {least m : ℕ} {b e text : List ℕ} {t u : Lent} → ◌≡◌ {A = ℕ} 0 (cond (ltb (length b) least) 22 0) → m ≤ least → t.buf.now ≡ b → t.at ≡ 0 → e ≡ u.buf.now → Grown m t u text → Lined least b e (Ok u.at) text
written {least} {b = b} {text = text} {t} h m old start new g =
    let roomy = le-ltb (length b) least (room (length b) least h) in
    let f = rw (old, start, ← new) at g.put in
    record {
      answer = rw roomy (ap Given (f.next ∙ zero-add (length text)));
      buffer = rw roomy (f.bytes ∙ ap (λ (n : ℕ). text ++ drop n b) (zero-add (length text)));
      most = omega (arith, f.most);
      within = f.room;
    }

-- with room, the result is the line's length
pub taken : {least : ℕ} {b e text : List ℕ} {r : Result ℕ Refusal} → least ≤ length b → Lined least b e r text → r ≡ Ok (length text)
taken {least} {b} {text = text} {r = r} h f = given r (f.answer ∙ (rw (le-ltb (length b) least h)))
  where
    given : (r : Result ℕ Refusal) → told r ≡ Given (length text) → r ≡ Ok (length text)
    given (Ok x) e = cc
    given (Err x) e = cc
