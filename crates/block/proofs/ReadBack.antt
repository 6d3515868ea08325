-- A header and a later block: what the writers write reads back, and what the readers accept is what the writers write. Assumes nothing.
use Rattle.std.proofs.Common.{◌≡◌, refl, sym, ap, ◌∙◌, List, [], ◌∷◌, ◌++◌, append_assoc, ℕ, ◌+◌, ◌*◌, ◌-◌, ◌≤◌, ◌<◌, arith, length, take, drop, take_at, drop_at}
use Rattle.codec.specs.Little.{le4, Bytes}
use Rattle.record.specs.Record.{most_seconds, all_kinds}
use Rattle.block.specs.Places.{block_size, check_at, count_end, body_at, second_size, second_at}
use Rattle.block.specs.Bytes.{zeros}
use Rattle.block.specs.Check.{check_of}
use Rattle.block.specs.Said.{values}
use Rattle.block.specs.Header.{header_of}
use Rattle.block.specs.Block.{block_of, due_in}
use Rattle.block.specs.Layout.{count_in, header_bytes, block_front, block_bytes, body_of, BlockLayout}
use Rattle.block.specs.Writing.{wrote, header_written, block_written}
use Rattle.block.specs.WriterClaims.{BlockBack}
use Rattle.block.proofs.Taken.{due_most}
use Rattle.block.proofs.Writing.{FitBlock, written, was_written, fit_header, header_fits, fit_block, block_fits}
use Rattle.block.proofs.Claims as read

-- ---- the header

pub header_back : (owner seconds : ℕ) → owner ≤ all_kinds → 0 < seconds → seconds ≤ most_seconds → header_of (header_bytes owner seconds) ≡ values (owner ∷ seconds ∷ [])
header_back owner seconds owners some most = (read.claims).header_given (header_bytes owner seconds) owner seconds (record { owners = owners; some = some; most = most; bytes = refl })

pub header_reads_back : (b s : List ℕ) (owner seconds : ℕ) → header_written b owner seconds ≡ wrote s → header_of s ≡ values (owner ∷ seconds ∷ [])
header_reads_back b s owner seconds e =
    let w = was_written _ b (header_bytes owner seconds) s e in
    let f = fit_header (length b) owner seconds w.0 in
    ap header_of (sym w.1) ∙ header_back owner seconds f.owners f.some f.most

pub header_is_written : (b s : List ℕ) (owner seconds : ℕ) → length b ≡ block_size → Bytes s → header_of s ≡ values (owner ∷ seconds ∷ []) → header_written b owner seconds ≡ wrote s
header_is_written b s owner seconds h bytes e =
    let l = (read.claims).header_taken s owner seconds bytes e in
    let n = header_fits (length b) owner seconds (record { len_is = h; owners = l.owners; some = l.some; most = l.most }) in
    sym (written _ b (header_bytes owner seconds) s n l.bytes)

-- ---- a later block

-- what stands before and after the seconds' bytes of a block that was written
unfoldable pub block_head : ℕ → List ℕ → List ℕ
block_head n body = le4 n ++ (count_in body ∷ zeros (body_at - count_end))

unfoldable pub block_tail : ℕ → List ℕ → List ℕ
block_tail n body = zeros (check_at - (body_at + length body)) ++ le4 (check_of (block_front n body))

pub opened : (n : ℕ) (body : List ℕ) → block_bytes n body ≡ block_head n body ++ (body ++ block_tail n body)
unfolding block_front block_head block_tail
opened n body = ap (λ (l : List ℕ). block_head n body ++ l) (append_assoc body (zeros (check_at - (body_at + length body))) (le4 (check_of (block_front n body))))

body_of_lem : (n : ℕ) (body : List ℕ) → length body ≡ second_size * count_in body → body_of (block_bytes n body) (count_in body) ≡ body
unfolding block_head
body_of_lem n body size =
    let m = second_at (count_in body) - body_at in
    let len : length body ≡ m = omega arith in
    ap (λ (s : List ℕ). body_of s (count_in body)) (opened n body) ∙ ap (take m) (drop_at (block_head n body) _ body_at refl) ∙ take_at body _ m len

laid : (len t n : ℕ) (body : List ℕ) → FitBlock len n (length body) → count_in body ≡ due_in t n → BlockLayout (block_bytes n body) t n (count_in body)
laid len t n body f due =
    let size : length body ≡ second_size * count_in body = omega (arith, f.whole) in
    let same = body_of_lem n body size in
    record {
      due = due;
      some = f.some;
      number = f.number;
      size = ap length same ∙ size;
      bytes = ap (block_bytes n) (sym same);
    }

pub block_back : (len t n : ℕ) (body : List ℕ) → FitBlock len n (length body) → count_in body ≡ due_in t n → BlockBack (block_bytes n body) t n body
block_back len t n body f due =
    let l = laid len t n body f due in
    let same = body_of_lem n body (omega (arith, f.whole)) in
    record {
      count = (read.claims).block_given (block_bytes n body) t n (count_in body) l;
      seconds = λ i h. (read.claims).block_seconds (block_bytes n body) t n (count_in body) l i h ∙ ap (λ (s : List ℕ). take second_size (drop (second_size * i) s)) same;
    }

pub block_reads_back : (b s body : List ℕ) (t n : ℕ) → block_written b n body ≡ wrote s → count_in body ≡ due_in t n → BlockBack s t n body
block_reads_back b s body t n e due =
    let w = was_written _ b (block_bytes n body) s e in
    rw (← w.1) (block_back (length b) t n body (fit_block (length b) n (length body) w.0) due)

pub block_is_written : (b s : List ℕ) (t n k : ℕ) → length b ≡ block_size → Bytes s → block_of s t n ≡ values (k ∷ []) → block_written b n (body_of s k) ≡ wrote s
block_is_written b s t n k h bytes e =
    let l = (read.claims).block_taken s t n k bytes e in
    let most = due_most t n in
    let size = l.size in
    let due = l.due in
    let fits : FitBlock (length b) n (length (body_of s k)) = record { len_is = h; number = l.number; whole = omega arith; some = omega (arith, l.some); few = omega arith } in
    sym (written _ b (block_bytes n (body_of s k)) s (block_fits (length b) n (length (body_of s k)) fits) l.bytes)
