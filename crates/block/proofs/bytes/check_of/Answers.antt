-- Each turn adds byte i's term, of at most 508 times 255, to those before it; after the last byte none is left.
use Rattle.std.proofs.Common.{◌≡◌, ℕ, ◌+◌, ◌*◌, ◌≤◌, ◌<◌, List, length, get_or, drop, take, arith, length-take, mul-le-mul, rules}
use Rattle.std.proofs.lemmas.List.{at_drop_more, at_drop_all}
use Rattle.block.specs.Places.{check_at}
use Rattle.block.specs.Check.{weights, check_of}
use Rattle.block.proofs.bytes.check_of.Goals as goal

step : (s : List ℕ) (i : ℕ) → i < length s → weights i (drop i s) ≡ (i + 1) * get_or s i 0 + weights (i + 1) (drop (i + 1) s)
unfolding weights
step s i h = at_drop_more (weights i) s i 0 h

end : (s : List ℕ) (i : ℕ) → length s ≤ i → weights i (drop i s) ≡ 0
unfolding weights
end s i h = at_drop_all (weights i) s i h

term_most : (s : List ℕ) (i b : ℕ) → i < length (take check_at s) → b ≤ 255 → (i + 1) * b ≤ check_at * 255
term_most s i b h k =
    let n : i + 1 ≤ check_at = omega (arith, length-take check_at s) in
    mul-le-mul n k

pub loop-i-init : goal.loop-i-init
unfolding check_of
loop-i-init c = search rules

pub overflow_mul-sum : goal.overflow_mul-sum
overflow_mul-sum c = let most = term_most c.args.s.now c.loop-i.i c.from.result c.loop-i-test.true (omega arith) in record { fits = omega arith }

pub overflow_add-sum-in-loop-i : goal.overflow_add-sum-in-loop-i
overflow_add-sum-in-loop-i c = let most = term_most c.args.s.now c.loop-i.i c.from.result c.loop-i-test.true (omega arith) in record { fits = omega (arith, length-take check_at c.args.s.now) }

pub loop-i-preserved : goal.loop-i-preserved
loop-i-preserved c =
    let most = term_most c.args.s.now c.loop-i.i c.from.result c.loop-i-test.true (omega arith) in
    let next = step (take check_at c.args.s.now) c.loop-i.i c.loop-i-test.true in
    record { most = omega arith; left = rw c.from.ensures (omega arith) }

pub returns : goal.returns
returns c = omega (arith, end (take check_at c.args.s.now) c.loop-i.i c.loop-i-test.false)
