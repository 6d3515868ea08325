-- Bytes of one block: they are gathered, or make it whole, or no block is due for them; and a piece chunk by chunk. Assumes nothing.
use Rattle.std.proofs.Common.{◌≡◌, refl, sym, ap, ◌∙◌, true, false, List, [], ◌∷◌, ◌++◌, append_assoc, append-nil, ℕ, ◌+◌, ◌-◌, ◌*◌, ◌≤◌, ◌<◌, ◌%◌, arith, length, take, drop, length-append, length-drop}
use Rattle.std.proofs.lemmas.List.{drop_all}
use Rattle.std.proofs.lemmas.Slice.{take-put_mid}
use borrow.Rule.Slice.PartMut.{put_mid}
use Rattle.block.specs.Places.{block_size}
use Rattle.codec.specs.declared.lent.Lent.{Lent}
use Rattle.codec.specs.Put.{Put}
use Rattle.codec.specs.Lent.{HasRoom, Grown}
use Rattle.codec.proofs.Lents.{both, loosen, none}
use Rattle.codec.proofs.Puts.{sized}
use Rattle.report.specs.Text.{block_room}
use Rattle.standing.specs.Standing.{Standing, Went, beyond_by, is_due, standing_in, Advances}
use Rattle.standing.proofs.Steps.{none_left, beyond_is, beyond_text}
use Rattle.pieces.specs.Pieces.{Reading, onward, left_by, bytes_in, piece_size, piece_room, Takes, Fitting, Chunked}
use Rattle.pieces.proofs.Bytes.{cut, beyond, filling, filled_up, whole_block}

-- ---- the bytes of one block

full : (st : Standing) (p s : List ℕ) → 0 < length s → is_due st ≡ true → length p + length s ≡ block_size → bytes_in st p s ≡ standing_in st (p ++ s)
full st p [] some d h = absurd (omega arith)
full st p (b ∷ s) some d h = filled_up st p b s d h

none_due : (st : Standing) (p s : List ℕ) → 0 < length s → is_due st ≡ false → bytes_in st p s ≡ beyond_by st.verdict st s
none_due st p [] some d = absurd (omega arith)
none_due st p (b ∷ s) some d = beyond st p b s d

module _ (r : Reading) {s : List ℕ} {t : Lent} where
  gives : {m : ℕ} {u : Lent} {v : Reading} {w : Went} → bytes_in r.standing r.part s ≡ w → v ≡ left_by w → Grown m t u w.text → u.at * block_size + length v.part * block_room ≤ t.at * block_size + (length r.part + length s) * block_room → Chunked m r s t u v
  gives all is text paced = record { reading = rw all is; text = rw all text; paced = paced }

  -- none is due
  pub past_last_lem : {st : Standing} → Fitting r s → HasRoom block_room t → is_due r.standing ≡ false → st ≡ (beyond_by r.standing.verdict r.standing s).standing → Chunked block_room r s t t (record { standing = st; part = [] })
  past_last_lem fit room d is =
      let empty = sym (none_left r.standing s) ∙ ap (λ (w : Went). w.part) (beyond_is r.standing s d) in
      gives (none_due r.standing r.part s fit.some d) (λ i. record { standing = is i; part = empty i })
      (rw (beyond_text r.standing.verdict r.standing s) (loosen (omega arith) (none t (omega (arith, room)))))
      (omega arith)

  -- one is: the bytes are put after those of it that were there
  pub still_short : {p : List ℕ} → HasRoom block_room t → is_due r.standing ≡ true → length r.part + length s < block_size → p ≡ r.part ++ s → Chunked block_room r s t t (record { standing = r.standing; part = p })
  still_short room due h is =
      rw is (gives (filling r.standing r.part s due h) refl (loosen (omega arith) (none t (omega (arith, room)))) (omega (arith, length-append r.part s)))

  pub now_whole : {u : Lent} {st : Standing} → 0 < length s → is_due r.standing ≡ true → length r.part + length s ≡ block_size → Advances block_room t u st (standing_in r.standing (r.part ++ s)) → Chunked block_room r s t u (record { standing = st; part = [] })
  now_whole some due size f =
      let empty = sym (none_left r.standing (r.part ++ s)) in
      gives (full r.standing r.part s some due size) (λ i. record { standing = f.standing i; part = empty i }) f.text (omega (arith, f.text.put.most, size))

  -- a whole block is, and lies in the piece
  pub whole_lies : {u : Lent} {st : Standing} → r.part ≡ [] → length s ≡ block_size → Advances block_room t u st (standing_in r.standing s) → Chunked block_room r s t u (record { standing = st; part = r.part })
  whole_lies empty size f =
      let none_is = empty ∙ sym (none_left r.standing s) in
      gives (ap (λ (p : List ℕ). bytes_in r.standing p s) empty ∙ whole_block r.standing s size) (λ i. record { standing = f.standing i; part = none_is i }) f.text (omega (arith, f.text.put.most, size))

-- ---- the bytes of a block begun

-- the bytes s were copied into the part behind its first `at` ones: those that are there then, and the whole part where it is full
module _ (at : ℕ) (part s : List ℕ) {copied : List ℕ} (same : copied ≡ s) (inside : at ≤ length part) where
  pub gathered : take (at + length s) (put_mid at (at + length s - at) part copied) ≡ take at part ++ s
  gathered =
      let len = ap length same in
      take-put_mid at (at + length s - at) part copied (at + length s) (omega arith) inside ∙ ap (λ (l : List ℕ). take at part ++ l) same

  pub gathered_whole : length part ≤ at + length s → put_mid at (at + length s - at) part copied ≡ take at part ++ s
  gathered_whole up =
      let long = length-drop at part in
      ap (λ (l : List ℕ). take at part ++ (copied ++ l)) (drop_all (at + length s - at) (drop at part) (omega arith)) ∙ ap (λ (l : List ℕ). take at part ++ l) (append-nil copied ∙ same)

-- ---- a buffer lent whole

pub at_front : {m : ℕ} {b e x : List ℕ} {t u : Lent} → t.buf.now ≡ b → t.at ≡ 0 → e ≡ u.buf.now → Grown m t u x → Put m b e 0 u.at x
at_front bytes begin end g = rw end (rw (bytes, begin) at g.put)

-- ---- a piece chunk by chunk

-- of the bytes s all but `rest` are taken: they put `added` into the lent buffer t, which is u then, and left v; all of them give that and what the rest gives
pub record Through (r : Reading) (s : List ℕ) (t u : Lent) (v : Reading) (rest : List ℕ) : Type 0 where
  pub added : List ℕ
  pub put : Grown piece_room t u added
  pub whole : bytes_in r.standing r.part s ≡ onward added (bytes_in v.standing v.part rest)
  pub paced : u.at * block_size + (length v.part + length rest) * block_room ≤ t.at * block_size + (length r.part + length s) * block_room

pub start : {r : Reading} {s : List ℕ} {t : Lent} → t.at ≤ length t.buf.now → Through r s t t r s
start {t = t} h = record { added = []; put = loosen (omega arith) (none t h); whole = refl; paced = omega arith }

module _ {r v : Reading} {s rest : List ℕ} {t u : Lent} (short : length r.part < block_size) (few : length s ≤ piece_size) (f : Through r s t u v rest) where
  pub more : {m : ℕ} {x after : List ℕ} {w : Lent} {y : Reading} → rest ≡ x ++ after → Chunked m v x u w y → Through r s t w y after
  more {m} {x} {after} {w} {y} is d =
      let b = bytes_in v.standing v.part x in
      let len : length rest ≡ length x + length after = ap length is ∙ length-append x after in
      let all : bytes_in r.standing r.part s ≡ onward f.added (onward b.text (bytes_in y.standing y.part after)) =
      f.whole
      ∙ ap (λ (l : List ℕ). onward f.added (bytes_in v.standing v.part l)) is
      ∙ ap (onward f.added) (cut v.standing v.part x after ∙ rw d.reading) in
      let pace : w.at * block_size + (length y.part + length after) * block_room ≤ t.at * block_size + (length r.part + length s) * block_room = omega (arith, d.paced, f.paced) in
      let text = both f.put d.text in
      record {
        added = f.added ++ b.text;
        put = record { same = text.same; long = text.long; put = sized (omega (arith, text.put.next, pace, short)) text.put };
        whole = all ∙ rw append_assoc;
        paced = pace;
      }

nothing : (l : List ℕ) → length l ≡ 0 → l ≡ []
nothing [] e = refl
nothing (b ∷ l) e = absurd (omega (arith, e))

pub finished : {r v : Reading} {s rest : List ℕ} {t u : Lent} → Through r s t u v rest → length rest ≡ 0 → Chunked piece_room r s t u v
unfolding bytes_in
finished {r} {v} {s} {rest} f left =
    let all : bytes_in r.standing r.part s ≡ record { text = f.added; standing = v.standing; part = v.part } =
    f.whole ∙ rw (nothing rest left) (rw append-nil) in
    record { reading = rw all; text = rw all f.put; paced = omega (arith, f.paced) }

-- all of a piece
pub whole_piece : {r v : Reading} {s b e : List ℕ} {t u : Lent} → t.buf.now ≡ b → t.at ≡ 0 → e ≡ u.buf.now → Chunked piece_room r s t u v → Takes piece_room b e u.at v (bytes_in r.standing r.part s)
whole_piece bytes begin end d = record { reading = d.reading; text = at_front bytes begin end d.text }

-- ---- whole blocks

-- likewise, where no block is begun and whole blocks are left
pub record Blocks (r : Reading) (s : List ℕ) (t u : Lent) (v : Reading) (rest : List ℕ) : Type 0 where
  pub through : Through r s t u v rest
  pub empty : v.part ≡ []
  pub even : length rest % block_size ≡ 0

pub one_block : {r v : Reading} {s rest after : List ℕ} {t u w : Lent} (x : List ℕ) {st : Standing} → length r.part < block_size → length s ≤ piece_size → Blocks r s t u v rest → rest ≡ x ++ after → length x ≡ block_size → Advances block_room u w st (standing_in v.standing x) → Blocks r s t w (record { standing = st; part = v.part }) after
one_block {v = v} {rest = rest} {after} x short few f is size d =
    let len : length rest ≡ length x + length after = ap length is ∙ length-append x after in
    record {
      through = more short few f.through is (whole_lies v f.empty size d);
      empty = f.empty;
      even = omega (arith, f.even, len, size);
    }
