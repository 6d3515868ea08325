-- A block's run, by what the reader answered. Assumes nothing.
use Rattle.std.proofs.Common.{◌≡◌, ℕ, zero, suc, ◌≤◌, List, [], ◌∷◌, length, refl, arith}
use Rattle.refusals.specs.declared.Refusal.{Refusal}
use Rattle.refusals.specs.Refusals.{number_of}
use Rattle.codec.specs.declared.lent.Lent.{Lent}
use Rattle.codec.proofs.Lents.{loosen, none}
use Rattle.block.specs.Said.{refused, answered}
use Rattle.block.specs.Block.{block_number, block_of, count_of, seconds_from}
use Rattle.report.specs.Running.{Refused, refused_at}
use Rattle.cut.specs.Running.{cut_seconds_in, block_by, cut_block_in}
use Rattle.cut_run.specs.declared.Cut.{Cut}
use Rattle.cut_run.specs.Adding.{cut_block_room, CutAdds}

module _ (c : Cut) (n : ℕ) (s : List ℕ) where
  pub in_turn : (ss : List (List ℕ)) → block_number s c.plan.seconds n ≡ 0 → ss ≡ seconds_from s 0 (count_of s) → cut_block_in c.plan c.at n c.kept c.handed s ≡ cut_seconds_in c.plan c.at c.kept c.handed ss
  unfolding cut_block_in
  in_turn ss is all = rw (is, all) refl

  number_is : (q m : ℕ) → refused m ≡ answered q (count_of s ∷ []) → block_by q c.plan c.at c.kept c.handed s ≡ record { ran = refused_at c.kept m; handed = c.handed }
  number_is zero m e = cc
  number_is (suc q) m e = cc

  pub turned_down : (e : Refusal) {t : Lent} → refused (number_of e) ≡ block_of s c.plan.seconds n → t.at ≤ length t.buf.now → CutAdds cut_block_room t t c c (Refused (number_of e)) (cut_block_in c.plan c.at n c.kept c.handed s)
  unfolding cut_block_in
  turned_down e {t} says room =
      rw (number_is (block_number s c.plan.seconds n) (number_of e) says)
      (record {
        adds = record { kept = refl; verdict = refl; text = loosen (omega arith) (none t room) };
        handed = refl;
        plan = refl;
        cut_at = refl;
      })
