-- Laws of lines, record after record and piece after piece. Assumes nothing.
use Rattle.std.proofs.Common.{◌≡◌, refl, sym, ap, ◌∙◌, subst, List, [], ◌∷◌, ◌++◌, append_assoc, append-nil, ℕ, zero, suc, ◌+◌, ◌*◌, ◌-◌, ◌/◌, ◌≤◌, ◌<◌, zero-le, zero-add, arith, length, take, drop, length-append, length-drop, take_at, drop_at, drop-drop, length-take-le, take_all}
use Rattle.std.proofs.Math.Seq.{take-append-le, drop-append-le, take-append-add}
use borrow.Rule.Slice.PartMut.{put_mid}
use Rattle.std.proofs.lemmas.Grind.{common_steps}
use Rattle.std.proofs.lemmas.Slice.{between_is}
use Rattle.std.specs.List.{copy_within}
use Rattle.codec.specs.declared.lent.Lent.{Lent}
use Rattle.codec.specs.Lent.{HasRoom, Grown}
use Rattle.codec.proofs.Lents.{both, loosen, none as nothing_put}
use Rattle.choose_meter.specs.Records.{record_size, said_in}
use Rattle.choose_meter.specs.Printed.{line_text, lines_of, printed, whole_text, rest_of, told, line_width, piece_size, piece_room}
use Rattle.choose_meter.specs.Claims.{joined}

-- ---- record after record

-- the first q, and those after them
split : (q m : ℕ) (s : List ℕ) → lines_of (q + m) s ≡ lines_of q s ++ lines_of m (drop (q * record_size) s)
unfolding lines_of
split zero m s = ap (λ (n : ℕ). lines_of n s) (zero-add m)
split (suc q) m s =
    ap (λ (n : ℕ). lines_of n s) (next q m)
    ∙ ap (λ (l : List ℕ). first ++ l) (split q m (drop record_size s))
    ∙ sym (append_assoc first (lines_of q (drop record_size s)) (lines_of m (drop (q * record_size) (drop record_size s))))
    ∙ ap (λ (l : List ℕ). (first ++ lines_of q (drop record_size s)) ++ lines_of m l) (drop-drop (q * record_size) record_size s ∙ ap (λ (n : ℕ). drop n s) (size q))
  where
    first : List ℕ
    first = line_text (said_in (take record_size s))

    next : (q m : ℕ) → suc q + m ≡ suc (q + m)
    next q m = omega arith

    size : (q : ℕ) → record_size + q * record_size ≡ suc q * record_size
    size q = omega arith

-- a single one
one : (s : List ℕ) → lines_of 1 s ≡ line_text (said_in (take record_size s))
unfolding lines_of
one s = append-nil (line_text (said_in (take record_size s)))

-- whole records are the same whatever follows
ahead : (q : ℕ) (s t : List ℕ) → q * record_size ≤ length s → lines_of q (s ++ t) ≡ lines_of q s
unfolding lines_of
ahead zero s t h = refl
ahead (suc q) s t h =
    (λ i. line_text (said_in (take-append-le record_size s t (omega arith) i)) ++ lines_of q (drop-append-le record_size s t (omega arith) i))
    ∙ ap (λ (l : List ℕ). line_text (said_in (take record_size s)) ++ l) (ahead q (drop record_size s) t (rw length-drop (omega arith)))

-- ---- into a buffer

-- the lines of the first k records of s are put, where the lent buffer was t and is u, and `rest` comes after them
pub record SoFar (k : ℕ) (s rest : List ℕ) (t u : Lent) : Type 0 where
  pub within : k * record_size ≤ length s
  pub stands : rest ≡ drop (k * record_size) s
  pub grown : Grown (k * line_width) t u (lines_of k s)

pub begin : (s : List ℕ) (t : Lent) → HasRoom piece_room t → SoFar 0 s s t t
unfolding lines_of
begin s t h = record { within = zero-le; stands = refl; grown = nothing_put t (omega arith) }

module _ {k : ℕ} {s rest : List ℕ} {t u : Lent} (f : SoFar k s rest t u) where
  left : length rest ≡ length s - k * record_size
  left = ap length f.stands ∙ length-drop (k * record_size) s

  -- room for one more line
  pub room : record_size ≤ length rest → length s ≤ piece_size → HasRoom piece_room t → HasRoom line_width u
  room h i r = omega (arith, left, f.within, f.grown.put.most, f.grown.long)

  -- one more line
  pub onward :
      {v : Lent} (part : List ℕ) {after : List ℕ} →
      rest ≡ part ++ after →
      length part ≡ record_size →
      Grown line_width u v (line_text (said_in part)) →
      SoFar (k + 1) s after t v
  onward {v} part {after} cut size g =
      let first : part ≡ take record_size (drop (k * record_size) s) = sym (take_at part after record_size size) ∙ ap (take record_size) (sym cut ∙ f.stands) in
      let line = ap (λ (p : List ℕ). line_text (said_in p)) first ∙ sym (one (drop (k * record_size) s)) in
      record {
        within = omega (arith, left, f.within, ap length cut, length-append part after);
        stands =
            sym (drop_at part after record_size size)
            ∙ ap (drop record_size) (sym cut ∙ f.stands)
            ∙ drop-drop record_size (k * record_size) s
            ∙ ap (λ (n : ℕ). drop n s) (next k);
        grown =
            loosen (wide k)
            (subst (Grown (k * line_width + line_width) t v)
            (ap (λ (l : List ℕ). lines_of k s ++ l) line ∙ sym (split k 1 s))
            (both f.grown g));
      }
    where
      next : (k : ℕ) → k * record_size + record_size ≡ (k + 1) * record_size
      next k = omega arith

      wide : (k : ℕ) → k * line_width + line_width ≤ (k + 1) * line_width
      wide k = omega arith

  -- the last of them
  pub all : length rest < record_size → length s ≤ piece_size → Grown piece_room t u (whole_text s)
  unfolding whole_text
  all h i =
      let count : k ≡ length s / record_size = omega (arith, left, f.within) in
      loosen (omega (arith, count)) (subst (λ (q : ℕ). Grown (k * line_width) t u (lines_of q s)) count f.grown)

-- n bytes of `new`, which stand in b from `from` on. `full_read` has the same line of its own, since neither crate uses the other.
pub received : (from k n : ℕ) (b new : List ℕ) → from ≤ length b → n ≤ length new → take (from + n) (put_mid from k b new) ≡ take from b ++ take n new
received from k n b new h i = grind (arith, common_steps, take-append-add)

-- ---- what is left of a piece

-- the bytes after the whole records of the first n, moved to the front
pub rest_is : (n : ℕ) (b : List ℕ) → n ≤ length b → take (n - n / record_size * record_size) (copy_within b (n / record_size * record_size) n 0) ≡ rest_of (take n b)
unfolding rest_of
rest_is n b h =
    let q = n / record_size * record_size in
    let part = take (n - q) (drop q b) in
    take_at part (drop (0 + (n - q)) b) (n - q) (length-take-le (n - q) (drop q b) (rw length-drop (omega arith)))
    ∙ between_is b q n
    ∙ ap (λ (m : ℕ). drop (m / record_size * record_size) (take n b)) (sym (length-take-le n b h))

-- the end of the input
pub nothing : (t : Lent) (s : List ℕ) → HasRoom line_width t → length s ≡ 0 → Grown line_width t t (printed s)
unfolding printed lines_of
nothing t s h e = subst (Grown line_width t t) (ap (λ (n : ℕ). lines_of ((n + 63) / record_size) s) (sym e)) (loosen (omega arith) (nothing_put t (omega arith)))

pub cut_short : (s : List ℕ) → 0 < length s → length s < record_size → line_text (said_in s) ≡ printed s
unfolding printed
cut_short s h k =
    sym (ap (λ (n : ℕ). lines_of n s) (single (length s) h k) ∙ one s ∙ ap (λ (l : List ℕ). line_text (said_in l)) (take_all record_size s (omega arith)))
  where
    single : (n : ℕ) → 0 < n → n < record_size → (n + 63) / record_size ≡ 1
    single n h k = omega arith

-- ---- piece after piece

pub more : (s t : List ℕ) → whole_text s ++ printed (rest_of s ++ t) ≡ printed (s ++ t)
unfolding whole_text rest_of printed
more s t =
    let q = length s / record_size in
    let m = (length (drop (q * record_size) s ++ t) + 63) / record_size in
    sym (
    ap (λ (n : ℕ). lines_of n (s ++ t)) (number q m refl refl)
    ∙ split q m (s ++ t)
    ∙ (λ i. ahead q s t (omega arith) i ++ lines_of m (drop-append-le (q * record_size) s t (omega arith) i))
    )
  where
    number : (q m : ℕ) → q ≡ length s / record_size → m ≡ (length (drop (q * record_size) s ++ t) + 63) / record_size → (length (s ++ t) + 63) / record_size ≡ q + m
    number q m e f = omega (arith, length-append s t, length-append (drop (q * record_size) s) t, length-drop (q * record_size) s)

pub any_cut : (begun : List ℕ) (ps : List (List ℕ)) → told begun ps ≡ printed (begun ++ joined ps)
unfolding told
any_cut begun [] = ap printed (sym (append-nil begun))
any_cut begun (p ∷ ps) =
    ap (λ (l : List ℕ). whole_text (begun ++ p) ++ l) (any_cut (rest_of (begun ++ p)) ps)
    ∙ more (begun ++ p) (joined ps)
    ∙ ap printed (append_assoc begun p (joined ps))
