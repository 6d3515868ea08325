-- The seconds of a block in turn: what those so far added, and those that are left. Assumes nothing.
use Rattle.std.proofs.Common.{◌≡◌, ℕ, ◌+◌, ◌*◌, ◌≤◌, List, [], ◌∷◌, ◌++◌, length, refl, ap, ◌∙◌, arith, append_assoc, append-nil}
use Rattle.block.specs.Places.{per_block}
use Rattle.codec.specs.declared.lent.Lent.{Lent}
use Rattle.codec.specs.Lent.{HasRoom, Grown}
use Rattle.codec.proofs.Lents.{both, loosen, none}
use Rattle.report.specs.Running.{Verdict, Accepted, Refused}
use Rattle.cut.specs.Running.{CutRan, cut_second_in, cut_seconds_in}
use Rattle.cut.proofs.Parts.{after_text}
use Rattle.cut_run.specs.declared.Cut.{Cut}
use Rattle.cut_run.specs.Adding.{cut_room, cut_block_room, CutAdds}

-- the seconds ss, run by the cut c
abbrev run_of : Cut → List (List ℕ) → CutRan
run_of c ss = cut_seconds_in c.plan c.at c.kept c.handed ss

-- the seconds ss before the last ones, `rest`, were accepted: they put `added` into the lent buffer t, that is v, and left `now`; all of them give
-- that and what the rest gives
pub record Left (c : Cut) (ss : List (List ℕ)) (t : Lent) (now : Cut) (v : Lent) (rest : List (List ℕ)) : Type 0 where
  pub added : List ℕ
  pub used : ℕ
  pub put : Grown used t v added
  pub few : used + length rest * cut_room ≤ cut_block_room
  pub plan : now.plan ≡ c.plan
  pub cut_at : now.at ≡ c.at
  pub whole : run_of c ss ≡ after_text added (run_of now rest)

pub all_left : {c : Cut} {ss : List (List ℕ)} {t : Lent} → length ss ≤ per_block → HasRoom cut_block_room t → Left c ss t c t ss
all_left {t = t} short room =
    record { added = []; used = 0; put = none t (omega (arith, room)); few = omega (arith, short); plan = refl; cut_at = refl; whole = refl }

module _ {c now new : Cut} {ss rest later : List (List ℕ)} {x : List ℕ} {t u v : Lent} {w : Verdict} (f : Left c ss t now u rest) (is : rest ≡ x ∷ later) (d : CutAdds cut_room u v now new w (cut_second_in now.plan now.at now.kept now.handed x)) where
  abbrev one : CutRan
  one = cut_second_in now.plan now.at now.kept now.handed x

  pub one_less : w ≡ Accepted → Left c ss t new v later
  unfolding cut_seconds_in
  one_less a =
      record {
        added = f.added ++ one.ran.text;
        used = f.used + cut_room;
        put = both f.put d.adds.text;
        few = omega (arith, f.few, ap length is);
        plan = d.plan ∙ f.plan;
        cut_at = d.cut_at ∙ f.cut_at;
        whole = f.whole ∙ rw (is, ← d.adds.verdict, a, ← d.adds.kept, ← d.handed, d.plan, d.cut_at) (rw append_assoc);
      }

  pub one_refused : {n : ℕ} → w ≡ Refused n → CutAdds cut_block_room t v c new w (run_of c ss)
  unfolding cut_seconds_in
  one_refused a =
      let all : run_of c ss ≡ after_text f.added one = f.whole ∙ rw (is, ← d.adds.verdict, a) in
      rw all
      (record {
        adds = record { kept = d.adds.kept; verdict = d.adds.verdict; text = loosen (omega (arith, f.few, ap length is)) (both f.put d.adds.text) };
        handed = d.handed;
        plan = d.plan ∙ f.plan;
        cut_at = d.cut_at ∙ f.cut_at;
      })

pub none_left : {c now : Cut} {ss rest : List (List ℕ)} {t v : Lent} → Left c ss t now v rest → length rest ≡ 0 → CutAdds cut_block_room t v c now Accepted (run_of c ss)
unfolding cut_seconds_in
none_left {rest = []} f h =
    let all = rw append-nil at f.whole in
    rw all
    (record {
      adds = record { kept = refl; verdict = refl; text = loosen (omega (arith, f.few)) f.put };
      handed = refl;
      plan = f.plan;
      cut_at = f.cut_at;
    })
none_left {rest = x ∷ l} f h = absurd (omega arith)
