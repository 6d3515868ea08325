-- A block as its reader answered: its seconds are run in turn, or it is refused. Assumes nothing.
use Rattle.std.proofs.Common.{◌≡◌, ℕ, zero, suc, ◌≤◌, List, [], ◌∷◌, length, refl, arith}
use Rattle.refusals.specs.declared.Refusal.{Refusal}
use Rattle.refusals.specs.Refusals.{number_of}
use Rattle.codec.specs.declared.lent.Lent.{Lent}
use Rattle.codec.proofs.Lents.{loosen, none}
use Rattle.block.specs.Said.{refused, answered}
use Rattle.block.specs.Block.{block_number, block_of, count_of, seconds_from}
use Rattle.report.specs.declared.run.Plan.{Plan}
use Rattle.report.specs.Text.{block_room}
use Rattle.report.specs.Kept.{Kept}
use Rattle.report.specs.Running.{Refused, refused_at, seconds_in, block_by, block_in, Adds}

module _ (p : Plan) (n : ℕ) (s : List ℕ) where
  pub in_turn : (ss : List (List ℕ)) (k : Kept) → block_number s p.seconds n ≡ 0 → ss ≡ seconds_from s 0 (count_of s) → block_in p n k s ≡ seconds_in p k ss
  unfolding block_in
  in_turn ss k is all = rw (is, all) refl

  number_is : (k : Kept) (q m : ℕ) → refused m ≡ answered q (count_of s ∷ []) → block_by q p k s ≡ refused_at k m
  number_is k zero m e = cc
  number_is k (suc q) m e = cc

  pub turned_down : (e : Refusal) {t : Lent} (k : Kept) → refused (number_of e) ≡ block_of s p.seconds n → t.at ≤ length t.buf.now → Adds block_room t t k (Refused (number_of e)) (block_in p n k s)
  unfolding block_in
  turned_down e {t} k says room =
      rw (number_is k (block_number s p.seconds n) (number_of e) says)
      (record { kept = refl; verdict = refl; text = loosen (omega arith) (none t room) })
