-- A block is accepted exactly when it has the layout, byte for byte. Assumes nothing.
use Rattle.std.proofs.Common.{◌≡◌, refl, sym, ap, ◌∙◌, List, [], ◌∷◌, ◌++◌, append_assoc, ℕ, ◌+◌, ◌*◌, ◌-◌, ◌≤◌, ◌<◌, arith, length, get_or, take, drop, length-append, length-drop, take_at, drop_at, drop-drop}
use Rattle.std.proofs.Math.ListN.{length-replicate}
use Rattle.std.proofs.Math.Seq.{drop-append-le, take-append-le}
use Rattle.codec.specs.Little.{u16_at, le4, Bytes}
use Rattle.codec.proofs.Little.{le4_value}
use Rattle.block.specs.Places.{check_at, name_at, version_at, version, spare_at, book_seconds_at, header_end, number_at, count_at, count_end, per_block, body_at, second_size, second_at}
use Rattle.block.specs.Bytes.{part, all_zero, zeros}
use Rattle.block.specs.Check.{check_of}
use Rattle.block.specs.Said.{values, answered}
use Rattle.block.specs.Header.{name, owner_of, seconds_of, header_of}
use Rattle.block.specs.Block.{count_of, due_in, block_of, second_of}
use Rattle.block.specs.Layout.{closed, header_front, count_in, block_front, block_bytes, body_of, HeaderLayout, BlockLayout}
use Rattle.block.specs.Claims.{Claims}
use Rattle.block.proofs.Parts.{part_cons, part_split, part_length, zero_part, all_zeros, four_of, four, closed_length, closed_check, closes}
use Rattle.block.proofs.Taken.{TakenHeader, TakenBlock, header_zero, block_zero, header_fields, block_fields, due_most}

-- bytes up to the check in four parts
split : (s : List ℕ) (a b c : ℕ) → a ≤ b → b ≤ c → c ≤ check_at → part s 0 check_at ≡ part s 0 a ++ (part s a b ++ (part s b c ++ part s c check_at))
split s a b c h k l = part_split s 0 a check_at (omega arith) (omega arith) ∙ ap (λ (x : List ℕ). part s 0 a ++ x) (part_split s a b check_at h (omega arith) ∙ ap (λ (x : List ℕ). part s a b ++ x) (part_split s b c check_at k l))

-- ---- later blocks

-- bytes 0 to 507 of block n where its seconds are k
front_with : ℕ → ℕ → List ℕ → List ℕ
front_with n k body = le4 n ++ ((k ∷ zeros (body_at - count_end)) ++ (body ++ zeros (check_at - second_at k)))

made : (n k : ℕ) (body : List ℕ) → length body ≡ second_size * k → block_bytes n body ≡ closed (front_with n k body)
unfolding block_front front_with
made n k body size =
    let count : count_in body ≡ k = omega arith in
    let end : check_at - (body_at + length body) ≡ check_at - second_at k = omega arith in
    rw (count, end)

block_taken : (s : List ℕ) (seconds n k : ℕ) → Bytes s → block_of s seconds n ≡ values (k ∷ []) → BlockLayout s seconds n k
unfolding front_with
block_taken s seconds n k b e =
    let f = block_fields s seconds n k e in
    let t = f.0 in
    let due : k ≡ due_in seconds n = f.1 ∙ t.count in
    let few = due_most seconds n in
    let len = t.len in
    let end = second_at k in
    let head : part s number_at count_at ≡ le4 n = four s number_at (omega arith) b ∙ ap le4 t.number in
    let count : part s count_at body_at ≡ k ∷ zeros (body_at - count_end) = part_cons s count_at body_at (omega arith) (omega arith) ∙ ap (λ (x : ℕ). x ∷ part s count_end body_at) (sym f.1) ∙ ap (λ (l : List ℕ). k ∷ l) (zero_part s count_end body_at (omega arith) t.spare) in
    let unused : part s end check_at ≡ zeros (check_at - end) = zero_part s end check_at (omega arith) (rw due t.unused) in
    let front : part s 0 check_at ≡ front_with n k (body_of s k) = split s count_at body_at end (omega arith) (omega arith) (omega arith) ∙ (cc) in
    let size : length (body_of s k) ≡ second_size * k = part_length s body_at end (omega arith) ∙ (omega arith) in
    record {
      due = due;
      some = omega (arith, t.some);
      number = t.from_one;
      size = size;
      bytes = closes s len b t.check ∙ ap closed front ∙ sym (made n k (body_of s k) size);
    }

module _ (seconds n k : ℕ) (body : List ℕ) (size : length body ≡ second_size * k) (due : k ≡ due_in seconds n) where
  few : k ≤ per_block
  few = let h = due_most seconds n in omega arith

  block_front_lem : List ℕ
  block_front_lem = front_with n k body

  front_length : length block_front_lem ≡ check_at
  unfolding block_front_lem front_with
  front_length = let h = few in simp (length-append, length-replicate) (omega arith)

  -- what follows the seconds' bytes
  after_body : part (closed block_front_lem) (second_at k) check_at ≡ zeros (check_at - second_at k)
  unfolding block_front_lem front_with
  after_body =
      let h = few in
      let m = check_at - second_at k in
      let y = le4 (check_of block_front_lem) in
      let head = le4 n ++ ((k ∷ zeros (body_at - count_end)) ++ body) in
      let len : length head ≡ second_at k = omega arith in
      ap (λ (l : List ℕ). part (le4 n ++ ((k ∷ zeros (body_at - count_end)) ++ l)) (second_at k) check_at) (append_assoc body (zeros m) y)
      ∙ ap (take m) (drop_at head (zeros m ++ y) (second_at k) len)
      ∙ take_at (zeros m) y m (length-replicate m 0)

  laid_block : 0 < k → 0 < n → TakenBlock (closed block_front_lem) seconds n
  unfolding block_front_lem front_with all_zero
  laid_block some one =
      record {
        len = closed_length block_front_lem front_length;
        check = closed_check block_front_lem front_length;
        number = le4_value n;
        from_one = one;
        some = omega arith;
        count = due;
        spare = refl;
        unused = ap (λ (j : ℕ). all_zero (part (closed block_front_lem) (second_at j) check_at)) (sym due) ∙ ap all_zero after_body ∙ all_zeros (check_at - second_at k);
      }

  given_block : 0 < k → 0 < n → block_of (closed block_front_lem) seconds n ≡ values (k ∷ [])
  unfolding block_front_lem front_with
  given_block some one = ap (λ (m : ℕ). answered m (count_of (closed block_front_lem) ∷ [])) (block_zero (closed block_front_lem) seconds n (laid_block some one))

block_given : (s : List ℕ) (seconds n k : ℕ) → BlockLayout s seconds n k → block_of s seconds n ≡ values (k ∷ [])
unfolding block_front_lem
block_given s seconds n k l = ap (λ (s : List ℕ). block_of s seconds n) (l.bytes ∙ made n k (body_of s k) l.size) ∙ given_block seconds n k (body_of s k) l.size l.due l.some l.number

-- ---- the header

next_four : (s : List ℕ) → book_seconds_at ≤ length s → Bytes s → u16_at s version_at ≡ version → get_or s spare_at 0 ≡ 0 → part s version_at book_seconds_at ≡ version ∷ 0 ∷ owner_of s ∷ 0 ∷ []
next_four s h b v z =
    let b4 = b version_at in
    let b5 = b (version_at + 1) in
    let r4 : get_or s version_at 0 ≡ version = omega arith in
    let r5 : get_or s (version_at + 1) 0 ≡ 0 = omega arith in
    four_of s version_at h ∙ (cc)

header_taken : (s : List ℕ) (owner seconds : ℕ) → Bytes s → header_of s ≡ values (owner ∷ seconds ∷ []) → HeaderLayout s owner seconds
unfolding header_front
header_taken s owner seconds b e =
    let f = header_fields s owner seconds e in
    let t = f.0 in
    let len = t.len in
    let o = f.1 in
    let p = f.2 in
    let head : part s name_at version_at ≡ name = four s name_at (omega arith) b ∙ ap le4 t.first_bytes in
    let flags = next_four s (omega arith) b t.version_is t.spare_byte in
    let count : part s book_seconds_at header_end ≡ le4 (seconds_of s) = four s book_seconds_at (omega arith) b in
    let none : part s header_end check_at ≡ zeros (check_at - header_end) = zero_part s header_end check_at (omega arith) t.spare in
    let front : part s 0 check_at ≡ header_front owner seconds =
    split s version_at book_seconds_at header_end (omega arith) (omega arith) (omega arith)
    ∙ (λ i. head i ++ (flags i ++ (count i ++ none i)))
    ∙ (λ i. name ++ ((version ∷ 0 ∷ sym o i ∷ 0 ∷ []) ++ (le4 (sym p i) ++ zeros (check_at - header_end)))) in
    record { owners = rw o t.owners; some = rw p t.some; most = rw p t.most; bytes = closes s len b t.check ∙ ap closed front }

header_given : (s : List ℕ) (owner seconds : ℕ) → HeaderLayout s owner seconds → header_of s ≡ values (owner ∷ seconds ∷ [])
unfolding header_front all_zero
header_given s owner seconds l =
    let front = header_front owner seconds in
    let whole = le4_value seconds in
    let t : TakenHeader (closed front) =
    record {
      len = closed_length front refl;
      check = closed_check front refl;
      first_bytes = refl;
      version_is = refl;
      owners = l.owners;
      some = rw whole l.some;
      most = rw whole l.most;
      spare_byte = refl;
      spare = refl;
    } in
    ap header_of l.bytes ∙ ap (λ (m : ℕ). answered m (owner ∷ seconds_of (closed front) ∷ [])) (header_zero (closed front) t) ∙ ap (λ (n : ℕ). values (owner ∷ n ∷ [])) whole

-- ---- the seconds

taken_part : (m n : ℕ) (x y z : List ℕ) → m + n ≤ length x → take n (drop m ((x ++ y) ++ z)) ≡ take n (drop m x)
taken_part m n x y z h =
    let p = length-append x y in
    let q = length-drop m x in
    let r = length-append (drop m x) y in
    ap (take n) (drop-append-le m (x ++ y) z (omega arith) ∙ ap (λ (l : List ℕ). l ++ z) (drop-append-le m x y (omega arith)))
    ∙ take-append-le n (drop m x ++ y) z (omega arith)
    ∙ take-append-le n (drop m x) y (omega arith)

block_seconds : (s : List ℕ) (seconds n k : ℕ) → BlockLayout s seconds n k → (i : ℕ) → i < k → second_of s i ≡ take second_size (drop (second_size * i) (body_of s k))
unfolding front_with
block_seconds s seconds n k l i h =
    let size = l.size in
    ap (λ (s : List ℕ). second_of s i) (l.bytes ∙ made n k (body_of s k) size)
    ∙ ap (take second_size) (sym (drop-drop (second_size * i) body_at _))
    ∙ taken_part (second_size * i) second_size (body_of s k) (zeros (check_at - second_at k)) _ (omega arith)

pub claims : Claims
claims = record { header_taken = header_taken; header_given = header_given; block_taken = block_taken; block_given = block_given; block_seconds = block_seconds }
