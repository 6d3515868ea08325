-- A whole book, written and read back block after block. Assumes nothing.
use Rattle.std.proofs.Common.{◌≡◌, refl, sym, ap, ◌∙◌, List, [], ◌∷◌, ◌++◌, append_assoc, ℕ, zero, suc, ◌+◌, ◌*◌, ◌-◌, ◌≤◌, ◌<◌, arith, length, take, drop, length-append, length-take, length-drop, take-append-drop, take_at, drop_at, drop-drop}
use Rattle.std.proofs.Math.Numerals.{unary_clauses}
use Rattle.block.specs.Places.{block_size, per_block, second_size, second_at}
use Rattle.block.specs.Block.{count_of, due_in, block_number, second_of, seconds_from}
use Rattle.block.specs.Layout.{count_in, header_front, header_bytes, block_front, block_bytes}
use Rattle.block.specs.Header.{header_of}
use Rattle.block.specs.Writing.{wrote, header_written, block_written}
use Rattle.block.specs.Book.{last_block, Held, held_by, later_blocks, blocks_of, WholeSeconds, joined, later_bytes, book_bytes}
use Rattle.record.specs.Record.{most_seconds, all_kinds}
use Rattle.block.specs.WriterClaims.{BookBack}
use Rattle.block.proofs.Answers.{accepted}
use Rattle.block.proofs.Parts.{closed_length}
use Rattle.block.proofs.Puts.{block_front_length}
use Rattle.block.proofs.Writing.{FitBlock, written, header_fits, block_fits}
use Rattle.block.proofs.ReadBack.{header_back, block_head, block_tail, opened, block_back}

-- ---- lists of seconds

joined_length : (ss : List (List ℕ)) → WholeSeconds ss → length (joined ss) ≡ second_size * length ss
unfolding joined
joined_length [] h = refl
joined_length (s ∷ ss) h = length-append s (joined ss) ∙ (omega (arith, h.0, joined_length ss h.1))

taken_seconds : (k : ℕ) (ss : List (List ℕ)) → WholeSeconds ss → WholeSeconds (take k ss)
taken_seconds zero ss h = tt
taken_seconds (suc k) [] h = tt
taken_seconds (suc k) (s ∷ ss) h = (h.0, taken_seconds k ss h.1)

left_seconds : (k : ℕ) (ss : List (List ℕ)) → WholeSeconds ss → WholeSeconds (drop k ss)
left_seconds zero ss h = h
left_seconds (suc k) [] h = tt
left_seconds (suc k) (s ∷ ss) h = left_seconds k ss h.1

-- the seconds ss, where they stand from the place of second i on
seconds_there : (ss : List (List ℕ)) (x y : List ℕ) (i : ℕ) → WholeSeconds ss → length x ≡ second_at i → seconds_from (x ++ (joined ss ++ y)) i (length ss) ≡ ss
unfolding seconds_from joined
seconds_there [] x y i h k = refl
seconds_there (s ∷ ss) x y i h k =
    let there : x ++ ((s ++ joined ss) ++ y) ≡ x ++ (s ++ (joined ss ++ y)) = ap (λ (l : List ℕ). x ++ l) (append_assoc s (joined ss) y) in
    let one : second_of (x ++ ((s ++ joined ss) ++ y)) i ≡ s = ap (λ (l : List ℕ). second_of l i) there ∙ ap (take second_size) (drop_at x (s ++ (joined ss ++ y)) (second_at i) k) ∙ take_at s (joined ss ++ y) second_size h.0 in
    let len : length (x ++ s) ≡ second_at (suc i) = length-append x s ∙ (omega (arith, h.0)) in
    let others : seconds_from (x ++ ((s ++ joined ss) ++ y)) (suc i) (length ss) ≡ ss = ap (λ (l : List ℕ). seconds_from l (suc i) (length ss)) (there ∙ sym (append_assoc x s (joined ss ++ y))) ∙ seconds_there ss (x ++ s) y (suc i) h.1 len in
    λ j. one j ∷ others j

-- ---- a block of the seconds xs

module _ (t n : ℕ) (xs : List (List ℕ)) (each : WholeSeconds xs) (some : 0 < length xs) (few : length xs ≤ per_block) where
  fit : (len : ℕ) → len ≡ block_size → 0 < n → FitBlock len n (length (joined xs))
  fit len h one =
      let size = joined_length xs each in
      record { len_is = h; number = one; whole = omega arith; some = omega arith; few = omega arith }

  count_in_lem : count_in (joined xs) ≡ length xs
  count_in_lem = let size = joined_length xs each in omega arith

  block_length : length (block_bytes n (joined xs)) ≡ block_size
  block_length = let size = joined_length xs each in closed_length (block_front n (joined xs)) (block_front_length n (joined xs) (omega arith))

  no_refusal : 0 < n → length xs ≡ due_in t n → block_number (block_bytes n (joined xs)) t n ≡ 0
  no_refusal one due = (accepted _ _ _ (block_back block_size t n (joined xs) (fit block_size refl one) (count_in_lem ∙ due)).count).0

  seconds_back : seconds_from (block_bytes n (joined xs)) 0 (count_of (block_bytes n (joined xs))) ≡ xs
  unfolding block_front block_head
  seconds_back = ap (seconds_from (block_bytes n (joined xs)) 0) count_in_lem ∙ ap (λ (s : List ℕ). seconds_from s 0 (length xs)) (opened n (joined xs)) ∙ seconds_there xs (block_head n (joined xs)) (block_tail n (joined xs)) 0 each refl

-- ---- block after block

-- `left` blocks take the seconds ss of a book of t seconds from block n on
pub record Due (t n left : ℕ) (ss : List (List ℕ)) : Type 0 where
  pub each : WholeSeconds ss
  pub number : 0 < n
  pub rest : length ss ≡ t - per_block * (n - 1)
  pub room : length ss ≤ per_block * left
  pub last : per_block * left < length ss + per_block

due_next : {t n left : ℕ} {ss : List (List ℕ)} → Due t n (suc left) ss → Due t (suc n) left (drop per_block ss)
due_next {t} {n} {left} {ss} d =
    let len = length-drop per_block ss in
    record {
      each = left_seconds per_block ss d.each;
      number = omega arith;
      rest = omega (arith, d.rest, d.number);
      room = omega (arith, d.room);
      last = omega (arith, d.last);
    }

-- the first of them: the seconds that are due in it
due_some : {t n left : ℕ} {ss : List (List ℕ)} → Due t n (suc left) ss → 0 < length (take per_block ss)
due_some {ss = ss} d = let len = length-take per_block ss in omega (arith, d.last)

due_few : (ss : List (List ℕ)) → length (take per_block ss) ≤ per_block
due_few ss = let len = length-take per_block ss in omega arith

due_count : {t n left : ℕ} {ss : List (List ℕ)} → Due t n left ss → length (take per_block ss) ≡ due_in t n
due_count {ss = ss} d = let len = length-take per_block ss in omega (arith, d.rest)

pub later_back : (t n left : ℕ) (ss : List (List ℕ)) → Due t n left ss → later_blocks t n left (later_bytes n left ss) ≡ record { seconds = ss; number = 0 }
unfolding later_blocks later_bytes
later_back t n zero [] d = refl
later_back t n zero (s ∷ ss) d = absurd (omega (arith, d.room))
later_back t n (suc left) ss d =
    let xs = take per_block ss in
    let each = taken_seconds per_block ss d.each in
    let some = due_some d in
    let few = due_few ss in
    let s = block_bytes n (joined xs) in
    let more = later_bytes (suc n) left (drop per_block ss) in
    let len = block_length t n xs each some few in
    let front : take block_size (s ++ more) ≡ s = take_at s more block_size len in
    let behind : drop block_size (s ++ more) ≡ more = drop_at s more block_size len in
    let number = no_refusal t n xs each some few d.number (due_count d) in
    let held = seconds_back t n xs each some few in
    let others = later_back t (suc n) left (drop per_block ss) (due_next d) in
    ap (λ (x : List ℕ). held_by (block_number x t n) x (later_blocks t (suc n) left (drop block_size (s ++ more)))) front
    ∙ ap (λ (x : List ℕ). held_by (block_number s t n) s (later_blocks t (suc n) left x)) behind
    ∙ ap (λ (h : Held). held_by (block_number s t n) s h) others
    ∙ ap (λ (m : ℕ). held_by m s (record { seconds = drop per_block ss; number = 0 })) number
    ∙ ap (λ (l : List (List ℕ)). record { seconds = l ++ drop per_block ss; number = 0 }) held
    ∙ ap (λ (l : List (List ℕ)). record { seconds = l; number = 0 }) (take-append-drop per_block ss)

dropped : {A : Type 0} (k j : ℕ) (l : List A) → drop (k * suc j) l ≡ drop (k * j) (drop k l)
dropped k j l =
    let e : k * suc j ≡ k + k * j = simp unary_clauses (omega arith) in
    ap (λ (n : ℕ). drop n l) e ∙ sym (drop-drop (k * j) k l)

-- block j of them, counted from 0
pub later_written : (t n left j : ℕ) (ss : List (List ℕ)) → Due t n left ss → j < left → take block_size (drop (block_size * j) (later_bytes n left ss)) ≡ block_bytes (n + j) (joined (take per_block (drop (per_block * j) ss)))
unfolding later_bytes
later_written t n zero j ss d h = absurd (omega arith)
later_written t n (suc left) zero ss d h =
    let xs = take per_block ss in
    let len = block_length t n xs (taken_seconds per_block ss d.each) (due_some d) (due_few ss) in
    let e : n ≡ n + 0 = omega arith in
    take_at (block_bytes n (joined xs)) (later_bytes (suc n) left (drop per_block ss)) block_size len ∙ ap (λ (m : ℕ). block_bytes m (joined xs)) e
later_written t n (suc left) (suc j) ss d h =
    let xs = take per_block ss in
    let s = block_bytes n (joined xs) in
    let more = later_bytes (suc n) left (drop per_block ss) in
    let len = block_length t n xs (taken_seconds per_block ss d.each) (due_some d) (due_few ss) in
    let e : suc n + j ≡ n + suc j = omega arith in
    ap (take block_size) (dropped block_size j (s ++ more) ∙ ap (drop (block_size * j)) (drop_at s more block_size len))
    ∙ later_written t (suc n) left j (drop per_block ss) (due_next d) (omega arith)
    ∙ ap (λ (l : List (List ℕ)). block_bytes (suc n + j) (joined (take per_block l))) (sym (dropped per_block j ss))
    ∙ ap (λ (m : ℕ). block_bytes m (joined (take per_block (drop (per_block * suc j) ss)))) e

-- ---- the whole book

module _ (owner : ℕ) (ss : List (List ℕ)) (each : WholeSeconds ss) where
  due : Due (length ss) 1 (last_block (length ss)) ss
  due = record { each = each; number = omega arith; rest = omega arith; room = omega arith; last = omega arith }

  first_block : take block_size (book_bytes owner ss) ≡ header_bytes owner (length ss)
  unfolding book_bytes header_front
  first_block = take_at (header_bytes owner (length ss)) (later_bytes 1 (last_block (length ss)) ss) block_size refl

  later_blocks_lem : drop block_size (book_bytes owner ss) ≡ later_bytes 1 (last_block (length ss)) ss
  unfolding book_bytes header_front
  later_blocks_lem = drop_at (header_bytes owner (length ss)) (later_bytes 1 (last_block (length ss)) ss) block_size refl

  header_written_lem : owner ≤ all_kinds → 0 < length ss → length ss ≤ most_seconds → (b : List ℕ) → length b ≡ block_size → header_written b owner (length ss) ≡ wrote (take block_size (book_bytes owner ss))
  header_written_lem owners some most b h =
      let n = header_fits (length b) owner (length ss) (record { len_is = h; owners = owners; some = some; most = most }) in
      sym (written _ b (header_bytes owner (length ss)) _ n first_block)

  blocks_written : (b : List ℕ) (n : ℕ) → length b ≡ block_size → n < last_block (length ss) → block_written b (n + 1) (joined (take per_block (drop (per_block * n) ss))) ≡ wrote (take block_size (drop (block_size * (n + 1)) (book_bytes owner ss)))
  blocks_written b n h k =
      let rest = drop (per_block * n) ss in
      let xs = take per_block rest in
      let left = length-drop (per_block * n) ss in
      let len = length-take per_block rest in
      let f = fit (length ss) (n + 1) xs (taken_seconds per_block rest (left_seconds (per_block * n) ss each)) (omega arith) (due_few rest) (length b) h (omega arith) in
      let next : n + 1 ≡ suc n = omega arith in
      let place : 1 + n ≡ n + 1 = omega arith in
      let there : take block_size (drop (block_size * (n + 1)) (book_bytes owner ss)) ≡ block_bytes (n + 1) (joined xs) =
      ap (λ (m : ℕ). take block_size (drop (block_size * m) (book_bytes owner ss))) next
      ∙ ap (take block_size) (dropped block_size n (book_bytes owner ss) ∙ ap (drop (block_size * n)) later_blocks_lem)
      ∙ later_written (length ss) 1 (last_block (length ss)) n ss due k
      ∙ ap (λ (m : ℕ). block_bytes m (joined xs)) place in
      sym (written _ b (block_bytes (n + 1) (joined xs)) _ (block_fits (length b) (n + 1) (length (joined xs)) f) there)

pub book_reads_back : (owner : ℕ) (ss : List (List ℕ)) → owner ≤ all_kinds → WholeSeconds ss → 0 < length ss → length ss ≤ most_seconds → BookBack owner ss
book_reads_back owner ss owners each some most =
    record {
      header = ap header_of (first_block owner ss each) ∙ header_back owner (length ss) owners some most;
      seconds = ap (blocks_of (length ss)) (later_blocks_lem owner ss each) ∙ later_back (length ss) 1 (last_block (length ss)) ss (due owner ss each);
      header_written_lem = header_written_lem owner ss each owners some most;
      blocks_written = blocks_written owner ss each;
    }
