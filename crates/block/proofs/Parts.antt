-- A part of a list, byte by byte; parts put together again. Assumes nothing.
use Rattle.std.proofs.Common.{◌≡◌, refl, sym, ap, ◌∙◌, true, List, [], ◌∷◌, ◌++◌, ℕ, zero, suc, ◌+◌, ◌-◌, ◌≤◌, ◌<◌, arith, length, get_or, length-take, length-drop, length-append, eqb, drop-cons, take-add, drop-drop, take_all, take_at, get_or-append-add, eqb-true}
use Rattle.codec.specs.Little.{u32_at, le4, Bytes}
use Rattle.codec.proofs.Little.{le4_value, four_bytes}
use Rattle.block.specs.Places.{block_size, check_at}
use Rattle.block.specs.Bytes.{part, all_zero, zeros}
use Rattle.block.specs.Check.{weights, check_of}
use Rattle.block.specs.Layout.{closed}
use Rattle.numbers.proofs.Rules.{both_true}

pub part_none : (s : List ℕ) (i end : ℕ) → end ≤ i → part s i end ≡ []
part_none s i end h =
    let e : end - i ≡ 0 = omega arith in
    rw e

pub part_cons : (s : List ℕ) (i end : ℕ) → i < end → end ≤ length s → part s i end ≡ get_or s i 0 ∷ part s (i + 1) end
part_cons s i end h k =
    let e : end - i ≡ suc (end - (i + 1)) = omega arith in
    let n : i + 1 ≡ suc i = omega arith in
    let l : i < length s = omega arith in
    rw (e, drop-cons s i 0 l, n)

-- ---- parts of a list put together

pub part_split : (s : List ℕ) (a b c : ℕ) → a ≤ b → b ≤ c → part s a c ≡ part s a b ++ part s b c
part_split s a b c h k =
    let n : c - a ≡ (b - a) + (c - b) = omega arith in
    let m : a + (b - a) ≡ b = omega arith in
    rw (n, take-add, drop-drop, m)

pub part_length : (s : List ℕ) (a c : ℕ) → c ≤ length s → length (part s a c) ≡ c - a
part_length s a c h = simp (length-take, length-drop) (omega arith)

-- a list of zeros
pub zeros_of : (s : List ℕ) → all_zero s ≡ true → s ≡ zeros (length s)
unfolding all_zero
zeros_of [] e = refl
zeros_of (b ∷ s) e =
    let h = both_true (eqb b 0) (all_zero s) e in
    ap (λ (x : ℕ). x ∷ s) (eqb-true b 0 h.0) ∙ ap (λ (l : List ℕ). 0 ∷ l) (zeros_of s h.1)

pub all_zeros : (n : ℕ) → all_zero (zeros n) ≡ true
unfolding all_zero
all_zeros zero = refl
all_zeros (suc n) = all_zeros n

pub zero_part : (s : List ℕ) (a c : ℕ) → c ≤ length s → all_zero (part s a c) ≡ true → part s a c ≡ zeros (c - a)
zero_part s a c h e = zeros_of (part s a c) e ∙ ap zeros (part_length s a c h)

-- ---- four bytes and their number

pub four_of : (s : List ℕ) (i : ℕ) → i + 4 ≤ length s → part s i (i + 4) ≡ get_or s i 0 ∷ get_or s (i + 1) 0 ∷ get_or s (i + 2) 0 ∷ get_or s (i + 3) 0 ∷ []
four_of s i h =
    let e1 : i + 1 + 1 ≡ i + 2 = omega arith in
    let e2 : i + 2 + 1 ≡ i + 3 = omega arith in
    let e3 : i + 3 + 1 ≡ i + 4 = omega arith in
    rw (part_cons s i (i + 4) (omega arith) h, part_cons s (i + 1) (i + 4) (omega arith) h, e1, part_cons s (i + 2) (i + 4) (omega arith) h, e2, part_cons s (i + 3) (i + 4) (omega arith) h, e3, part_none s (i + 4) (i + 4) (omega arith))

pub four : (s : List ℕ) (i : ℕ) → i + 4 ≤ length s → Bytes s → part s i (i + 4) ≡ le4 (u32_at s i)
four s i h b = four_of s i h ∙ four_bytes (get_or s i 0) (get_or s (i + 1) 0) (get_or s (i + 2) 0) (get_or s (i + 3) 0) (b i) (b (i + 1)) (b (i + 2))

-- ---- a block without its check

pub whole : (s : List ℕ) → length s ≡ block_size → s ≡ part s 0 check_at ++ part s check_at block_size
whole s h = sym (take_all block_size s (omega arith)) ∙ part_split s 0 check_at block_size (omega arith) (omega arith)

check_front : (f y : List ℕ) → length f ≡ check_at → check_of (f ++ y) ≡ 1 + weights 0 f
unfolding check_of
check_front f y h = ap (λ (l : List ℕ). 1 + weights 0 l) (take_at f y check_at h)

check_alone : (f : List ℕ) → length f ≡ check_at → check_of f ≡ 1 + weights 0 f
unfolding check_of
check_alone f h = ap (λ (l : List ℕ). 1 + weights 0 l) (take_all check_at f (omega arith))

pub check_of_front : (s : List ℕ) → length s ≡ block_size → check_of s ≡ check_of (part s 0 check_at)
unfolding check_of
check_of_front s h = sym (check_alone (part s 0 check_at) (part_length s 0 check_at (omega arith)))

pub closed_length : (f : List ℕ) → length f ≡ check_at → length (closed f) ≡ block_size
closed_length f h = length-append f _ ∙ ap (λ (n : ℕ). n + 4) h

at_end : (f y : List ℕ) (n : ℕ) → length f ≡ check_at → get_or (f ++ y) (check_at + n) 0 ≡ get_or y n 0
at_end f y n h = ap (λ (m : ℕ). get_or (f ++ y) (m + n) 0) (sym h) ∙ get_or-append-add f y n 0

pub closed_check : (f : List ℕ) → length f ≡ check_at → u32_at (closed f) check_at ≡ check_of (closed f)
closed_check f h =
    let y = le4 (check_of f) in
    rw (at_end f y 0 h, at_end f y 1 h, at_end f y 2 h, at_end f y 3 h) (le4_value (check_of f)) ∙ check_alone f h ∙ sym (check_front f y h)

-- a block that ends in its own check is closed
pub closes : (s : List ℕ) → length s ≡ block_size → Bytes s → u32_at s check_at ≡ check_of s → s ≡ closed (part s 0 check_at)
closes s h b e = whole s h ∙ ap (λ (l : List ℕ). part s 0 check_at ++ l) (four s check_at (omega arith) b ∙ ap le4 (e ∙ check_of_front s h))
