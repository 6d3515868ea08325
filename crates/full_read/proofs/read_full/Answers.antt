-- What a read gives stands behind what was read before it, and both are the next of the reader's bytes.
use Rattle.std.proofs.Common.{◌≡◌, ℕ, ◌+◌, ◌≤◌, List, ◌++◌, rules, length, take, sym, subst, arith}
use Rattle.std.specs.Io.KnownBytes.{Consumes}
use Rattle.std.proofs.KnownBytes.{Consumes-trans}
use borrow.Rule.Slice.PartMut.{put_mid}
use Rattle.std.proofs.Math.Seq.{take-append-add}
use Rattle.std.proofs.lemmas.Grind.{common_steps}
use Rattle.full_read.proofs.read_full.Goals as goal

-- n bytes of `new`, which stand in b from `from` on
received : (from k n : ℕ) (b new : List ℕ) → from ≤ length b → n ≤ length new → take (from + n) (put_mid from k b new) ≡ take from b ++ take n new
received from k n b new h i = grind (arith, common_steps, take-append-add)

pub loop-done-preserved : goal.loop-done-preserved
loop-done-preserved g c =
    let joined = received c.loop-done.done _ c.in-Ok.n c.loop-done.bytes c.read.new.buf c.loop-done.invariant.0 c.in-Ok.ensures.bound.0 in
    (search rules, search rules, subst (Consumes _ _) (sym joined) (Consumes-trans _ _ _ _ _ c.loop-done.invariant.2 c.in-Ok.ensures.bytes.0))
