-- The bytes of a book, block after block, give what is printed of it. Assumes nothing.
use Rattle.std.proofs.Common.{◌≡◌, refl, sym, ap, ◌∙◌, Bool, true, false, List, [], ◌∷◌, ◌++◌, append_assoc, ℕ, zero, suc, ◌+◌, ◌≤◌, ◌<◌, add-one, arith, leb, length, take, drop, length-take, take-append-drop, take_all, leb-true, leb-false, le-leb, ne_eqb}
use Rattle.std.proofs.lemmas.Bool.{lt-leb}
use Rattle.numbers.specs.Rules.{or_else, first}
use Rattle.sheet.specs.declared.Sheet.{Sheet}
use Rattle.sheet.specs.Sheet.{InRange}
use Rattle.book.specs.Seconds.{BookSecond, History}
use Rattle.book.specs.Refusals.{Accepted}
use Rattle.book.specs.State.{state_of, second_of}
use Rattle.block.specs.Places.{block_size}
use Rattle.block.specs.Header.{header_number, owner_of, seconds_of}
use Rattle.block.specs.Block.{block_number, count_of, seconds_from}
use Rattle.block.specs.Book.{Held, held_by, past_last, later_blocks, last_block}
use Rattle.report.specs.declared.Form.{Form}
use Rattle.report.specs.Kept.{Kept}
use Rattle.report.specs.Running as verdict
use Rattle.report.specs.Running.{Ran, block_in, seconds_in}
use Rattle.report.specs.Counts.{tally_of, kept_of}
use Rattle.book.proofs.Claims.{fresh_is, none_accepted}
use Rattle.report.proofs.Past.{tally_none}
use Rattle.report.proofs.KeptAfter.{counted}
use Rattle.printed.specs.Printed.{Judged, judged, end_text, book_seconds, printed_by, printed}
use Rattle.standing.specs.Standing.{Standing, start, kept_by, with_verdict, after_header, later_by, is_due, standing_in, end_of, last_line_in}
use Rattle.standing.proofs.Steps.{refused_not_due, header_is, later_is}
use Rattle.pieces.specs.Pieces.{onward, bytes_in, last_in}
use Rattle.pieces.proofs.Bytes.{stays, beyond, filling, block_more}
use Rattle.printed.proofs.Judged.{verdict_of, Agrees, agree, then, two_parts}

-- the text of the bytes s from a standing on, with the last line
abbrev pub closed : Standing → List ℕ → List ℕ
closed st s = (bytes_in st [] s).text ++ last_in (bytes_in st [] s).standing

module _ (sh : Sheet) (in_range : InRange sh) where
  -- ---- the last line of a standing

  book_is : {k l : Kept} → k ≡ l → k.book ≡ l.book
  book_is e = ap (λ (k : Kept). k.book) e

  tally_is : {k l : Kept} → k ≡ l → k.tally ≡ l.tally
  tally_is e = ap (λ (k : Kept). k.tally) e

  last_refused : (st : Standing) (h : History) {n : ℕ} → st.verdict ≡ verdict.Refused (suc n) → kept_by st ≡ kept_of sh [] h → last_in st ≡ end_text sh st.plan.form (suc n) [] h
  unfolding last_in last_line_in end_text end_of
  last_refused st h e k = rw (refused_not_due st e, e, book_is k, tally_is k, counted sh [] h)

  last_short : (st : Standing) (h : History) → is_due st ≡ true → kept_by st ≡ kept_of sh [] h → last_in st ≡ end_text sh st.plan.form 12 [] h
  unfolding last_in last_line_in end_text end_of
  last_short st h d k = rw (d, book_is k, tally_is k, counted sh [] h)

  last_sums : (st : Standing) (h : History) → is_due st ≡ false → st.verdict ≡ verdict.Accepted → kept_by st ≡ kept_of sh [] h → last_in st ≡ end_text sh st.plan.form 0 [] h
  unfolding last_in last_line_in end_text end_of state_of
  last_sums st h d e k = rw (d, e, book_is k, tally_is k)

  -- after a refusal
  closed_refused : (st : Standing) (s : List ℕ) (h : History) {n : ℕ} → st.verdict ≡ verdict.Refused (suc n) → kept_by st ≡ kept_of sh [] h → closed st s ≡ end_text sh st.plan.form (suc n) [] h
  closed_refused st s h e k = rw (stays st s e) (last_refused st h e k)

  -- a block that isn't whole
  closed_short : (st : Standing) (s : List ℕ) (h : History) → is_due st ≡ true → length s < block_size → kept_by st ≡ kept_of sh [] h → closed st s ≡ end_text sh st.plan.form 12 [] h
  closed_short st s h d l k = rw (filling st [] s d (omega arith)) (last_short st h d k)

  -- a whole block, and what follows it
  closed_block : (st : Standing) (s : List ℕ) → block_size ≤ length s → closed st s ≡ (standing_in st (take block_size s)).text ++ closed (standing_in st (take block_size s)).standing (drop block_size s)
  closed_block st s h =
      let l : length (take block_size s) ≡ block_size = simp length-take (omega arith) in
      let both : take block_size s ++ drop block_size s ≡ s = take-append-drop block_size s in
      let is : bytes_in st [] s ≡ onward (standing_in st (take block_size s)).text (bytes_in (standing_in st (take block_size s)).standing [] (drop block_size s)) =
      ap (bytes_in st []) (sym both) ∙ block_more st (take block_size s) (drop block_size s) l in
      rw is (rw append_assoc)

  -- ---- the later blocks

  abbrev later : Form → ℕ → ℕ → ℕ → History → Standing
  later f o t n h = record { plan = record { form = f; owner = o; seconds = t }; next = n; book = state_of sh [] h; tally = tally_of sh [] h; verdict = verdict.Accepted }

  -- what the blocks of a book hold, judged after the past h
  abbrev ended : Form → ℕ → History → Held → List ℕ
  ended f o h b =
      (judged sh f [] h (book_seconds o b.seconds)).text ++ end_text sh f (or_else (judged sh f [] h (book_seconds o b.seconds)).number b.number) [] (judged sh f [] h (book_seconds o b.seconds)).past

  is_due_at : (f : Form) (o t n : ℕ) (h : History) → n ≤ last_block t → is_due (later f o t n h) ≡ true
  unfolding is_due
  is_due_at f o t n h k = le-leb n (last_block t) k

  not_due_at : (f : Form) (o t n : ℕ) (h : History) → last_block t < n → is_due (later f o t n h) ≡ false
  unfolding is_due
  not_due_at f o t n h k = lt-leb n (last_block t) k

  short_number : (s : List ℕ) (t n : ℕ) → length s < block_size → block_number s t n ≡ 12
  unfolding block_number
  short_number s t n h = rw (ne_eqb (length s) block_size (λ q. omega (arith, q)))

  -- past the last block
  no_bytes : (st : Standing) → closed st [] ≡ last_in st
  unfolding bytes_in
  no_bytes st = refl

  at_end : (f : Form) (o t n : ℕ) (h : History) (s : List ℕ) → last_block t < n → closed (later f o t n h) s ≡ end_text sh f (past_last s) [] h
  at_end f o t n h [] k = no_bytes (later f o t n h) ∙ last_sums (later f o t n h) h (not_due_at f o t n h k) refl refl
  at_end f o t n h (b ∷ s) k =
      let st = later f o t n h in
      rw (beyond st [] b s (not_due_at f o t n h k)) (last_refused (with_verdict st (verdict.Refused 21)) h refl refl)

  map_append : (o : ℕ) (l m : List (List ℕ)) → book_seconds o (l ++ m) ≡ book_seconds o l ++ book_seconds o m
  map_append o [] m = refl
  map_append o (s ∷ l) m = ap (λ (r : List BookSecond). second_of o s ∷ r) (map_append o l m)

  -- the seconds of one block, and then those of the others
  module _ (f : Form) (o : ℕ) (h : History) (l : List (List ℕ)) (b : Held) where
    abbrev block : Judged
    block = judged sh f [] h (book_seconds o l)

    all : judged sh f [] h (book_seconds o (l ++ b.seconds)) ≡ then block.number block (judged sh f [] block.past (book_seconds o b.seconds))
    all = rw (map_append o l b.seconds) (two_parts sh f [] h (book_seconds o l) (book_seconds o b.seconds))

    goes_on : block.number ≡ 0 → ended f o h (record { seconds = l ++ b.seconds; number = b.number }) ≡ block.text ++ ended f o block.past b
    goes_on e = rw (all, e) (rw append_assoc)

    stops : {q : ℕ} → block.number ≡ suc q → ended f o h (record { seconds = l ++ b.seconds; number = b.number }) ≡ block.text ++ end_text sh f (suc q) [] block.past
    unfolding judged
    stops e = rw (all, e) (rw e)

  module _ (f : Form) (o t n : ℕ) (h : History) (s : List ℕ) (first : 0 < n) (due : is_due (later f o t n h) ≡ true) where
    abbrev st : Standing
    st = later f o t n h

    is_later : standing_in st s ≡ later_by (block_in st.plan n (kept_of sh [] h) s) st
    is_later = later_is st s due (λ z. omega (arith, z))

    block_refused : {m : ℕ} → block_number s t n ≡ suc m → standing_in st s ≡ later_by (record { text = []; kept = kept_of sh [] h; verdict = verdict.Refused (suc m) }) st
    unfolding block_in
    block_refused e = is_later ∙ rw e

    block_run : block_number s t n ≡ 0 → standing_in st s ≡ later_by (seconds_in st.plan (kept_of sh [] h) (seconds_from s 0 (count_of s))) st
    unfolding block_in
    block_run e = is_later ∙ rw e

  -- a block more, where the blocks after it are told whatever the past
  module _
      (f : Form) (o t left n : ℕ) (h : History) (s : List ℕ) (acc : Accepted [] h) (first : 0 < n) (due : is_due (later f o t n h) ≡ true)
      (others : (past : History) → Accepted [] past → closed (later f o t (suc n) past) (drop block_size s) ≡ ended f o past (later_blocks t (suc n) left (drop block_size s))) where
    abbrev head : List ℕ
    head = take block_size s

    abbrev rest : List ℕ
    rest = drop block_size s

    abbrev held : List (List ℕ)
    held = seconds_from head 0 (count_of head)

    abbrev ran : Ran
    ran = seconds_in (record { form = f; owner = o; seconds = t }) (kept_of sh [] h) held

    after : (b : ℕ) → (judged sh f [] h (book_seconds o held)).number ≡ b → Agrees sh [] ran (judged sh f [] h (book_seconds o held)) → ran.text ++ closed (later_by ran (later f o t n h)).standing rest ≡ ended f o h (held_by 0 head (later_blocks t (suc n) left rest))
    after zero q a =
        let j = judged sh f [] h (book_seconds o held) in
        rw (goes_on f o h held (later_blocks t (suc n) left rest) q, a.text, a.kept, a.verdict ∙ ap verdict_of q, add-one)
        (ap (λ (l : List ℕ). j.text ++ l) (others j.past a.accepted))
    after (suc b) q a =
        let j = judged sh f [] h (book_seconds o held) in
        rw (stops f o h held (later_blocks t (suc n) left rest) q, a.text)
        (ap (λ (l : List ℕ). j.text ++ l) (closed_refused (later_by ran (later f o t n h)).standing rest j.past (a.verdict ∙ ap verdict_of q) a.kept))

    by : (m : ℕ) → block_number head t n ≡ m → block_size ≤ length s → closed (later f o t n h) s ≡ ended f o h (held_by m head (later_blocks t (suc n) left rest))
    unfolding judged
    by zero r k =
        closed_block (later f o t n h) s k
        ∙ rw (block_run f o t n h head first due r) (after _ refl (agree sh in_range (record { form = f; owner = o; seconds = t }) held [] h acc))
    by (suc m) r k =
        closed_block (later f o t n h) s k
        ∙ rw (block_refused f o t n h head first due r) (closed_refused (with_verdict (later f o t (n + 1) h) (verdict.Refused (suc m))) rest h refl refl)

    one_more : (b : Bool) → leb block_size (length s) ≡ b → closed (later f o t n h) s ≡ ended f o h (held_by (block_number head t n) head (later_blocks t (suc n) left rest))
    unfolding judged
    one_more true q = by (block_number head t n) refl (leb-true _ _ q)
    one_more false q =
        let short : length s < block_size = leb-false block_size (length s) q in
        let all : head ≡ s = take_all block_size s (omega arith) in
        let number : block_number head t n ≡ 12 = ap (λ (l : List ℕ). block_number l t n) all ∙ short_number s t n short in
        rw number (closed_short (later f o t n h) s h due short refl)

  told_later : (f : Form) (o t left n : ℕ) (h : History) (s : List ℕ) → Accepted [] h → 0 < n → n + left ≡ last_block t + 1 → closed (later f o t n h) s ≡ ended f o h (later_blocks t n left s)
  unfolding later_blocks judged
  told_later f o t zero n h s acc first e = at_end f o t n h s (omega arith)
  told_later f o t (suc left) n h s acc first e =
      one_more f o t left n h s acc first (is_due_at f o t n h (omega arith)) (λ past a. told_later f o t left (suc n) past (drop block_size s) a (omega arith) (omega arith)) (leb block_size (length s)) refl

  -- ---- the header, and the whole

  start_due : (f : Form) → is_due (start sh f) ≡ true
  unfolding is_due start
  start_due f = refl

  start_next : (f : Form) → (start sh f).next ≡ 0
  unfolding start
  start_next f = refl

  start_kept : (f : Form) → kept_by (start sh f) ≡ kept_of sh [] []
  unfolding start
  start_kept f = rw (← (fresh_is sh), tally_none sh)

  start_form : (f : Form) → (start sh f).plan.form ≡ f
  unfolding start
  start_form f = refl

  short_header : (s : List ℕ) → length s < block_size → header_number s ≡ 12
  unfolding header_number
  short_header s h = rw (ne_eqb (length s) block_size (λ q. omega (arith, q)))

  after_header_lem : (f : Form) (o t : ℕ) → after_header (start sh f) o t ≡ later f o t 1 []
  unfolding start
  after_header_lem f o t = rw (← (fresh_is sh), tally_none sh)

  pub whole : (f : Form) (s : List ℕ) → closed (start sh f) s ≡ printed sh f s
  unfolding printed Accepted
  whole f s = go (leb block_size (length s)) refl
    where
      by : (m : ℕ) → header_number (take block_size s) ≡ m → block_size ≤ length s → closed (start sh f) s ≡ printed_by sh m f (take block_size s) (drop block_size s)
      by zero r k =
          let head = take block_size s in
          closed_block (start sh f) s k
          ∙ rw (header_is (start sh f) head (start_due f) (start_next f), r, after_header_lem f (owner_of head) (seconds_of head))
          (told_later f (owner_of head) (seconds_of head) (last_block (seconds_of head)) 1 [] (drop block_size s) none_accepted (omega arith) (omega arith))
      by (suc m) r k =
          closed_block (start sh f) s k
          ∙ rw (header_is (start sh f) (take block_size s) (start_due f) (start_next f), r)
          (closed_refused (with_verdict (start sh f) (verdict.Refused (suc m))) (drop block_size s) [] refl (start_kept f) ∙ ap (λ (g : Form). end_text sh g (suc m) [] []) (start_form f))

      go : (b : Bool) → leb block_size (length s) ≡ b → closed (start sh f) s ≡ printed_by sh (header_number (take block_size s)) f (take block_size s) (drop block_size s)
      go true q = by (header_number (take block_size s)) refl (leb-true _ _ q)
      go false q =
          let short : length s < block_size = leb-false block_size (length s) q in
          let all : take block_size s ≡ s = take_all block_size s (omega arith) in
          let number : header_number (take block_size s) ≡ 12 = ap header_number all ∙ short_header s short in
          rw number (closed_short (start sh f) s [] (start_due f) short (start_kept f) ∙ ap (λ (g : Form). end_text sh g 12 [] []) (start_form f))
