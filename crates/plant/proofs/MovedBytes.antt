-- The record of a plant second's bytes with the delivery end moved back. Assumes nothing.
use Rattle.std.proofs.Common.{◌≡◌, refl, sym, ap, ◌∙◌, Bool, true, false, cond, List, ◌++◌, ℕ, ◌+◌, ◌-◌, ◌*◌, ◌<◌, ◌≤◌, arith, eqb, length, get_or, take, drop, length-append, length-take, length-drop, get_or-append-add, get_or-take, get_or-drop, length-take-le}
use Rattle.std.proofs.Math.ListN.{get_or-append}
use Rattle.codec.specs.Little.{u16_at, u32_at, le4, twos_complement}
use Rattle.codec.specs.Put.{over}
use Rattle.codec.proofs.Little.{le4_value}
use Rattle.power.specs.Units.{kw}
use Rattle.record.specs.Record as bytes
use Rattle.record.specs.Record.{size, end_place, call_place, record_of}
use Rattle.plant.specs.Seconds.{with_end, moved_back}

module _ (s : List ℕ) (m : ℕ) (whole : length s ≡ size) where
  abbrev put : List ℕ
  put = over s end_place (le4 m)

  front : length (take end_place s) ≡ end_place
  front = length-take-le end_place s (omega (arith, whole))

  low : (i : ℕ) → i < end_place → get_or put i 0 ≡ get_or s i 0
  low i h = get_or-append (take end_place s) (le4 m ++ drop 32 s) 0 i (omega (arith, front)) ∙ get_or-take end_place s i 0 h

  from_end : (j : ℕ) → get_or put (end_place + j) 0 ≡ get_or (le4 m ++ drop 32 s) j 0
  from_end j = ap (λ (k : ℕ). get_or put (k + j) 0) (sym front) ∙ get_or-append-add (take end_place s) (le4 m ++ drop 32 s) j 0

  high : (j : ℕ) → get_or put (end_place + (4 + j)) 0 ≡ get_or s (32 + j) 0
  high j = from_end (4 + j) ∙ get_or-append-add (le4 m) (drop 32 s) j 0 ∙ get_or-drop 32 s j 0

  word : (k : ℕ) → k + 4 ≤ end_place → u32_at put k ≡ u32_at s k
  word k h =
      λ i.
      low k (omega arith) i + low (k + 1) (omega arith) i * 256 + low (k + 2) (omega arith) i * 65536 + low (k + 3) (omega arith) i * 16777216

  end_is : u32_at put end_place ≡ m
  end_is = (λ i. from_end 0 i + from_end 1 i * 256 + from_end 2 i * 65536 + from_end 3 i * 16777216) ∙ le4_value m

  half : u16_at put 32 ≡ u16_at s 32
  half = λ i. high 0 i + high 1 i * 256

  abbrev signed : {x y : ℕ} → x ≡ y → twos_complement 2147483648 x ≡ twos_complement 2147483648 y
  signed e = ap (twos_complement 2147483648) e

  pub record_put : record_of put ≡ with_end m (record_of s)
  unfolding record_of
  record_put =
      λ i. record {
        measured = kw (signed (word 0 (omega arith)) i);
        working_point = kw (signed (word 4 (omega arith)) i);
        fcr_held = kw (signed (word 8 (omega arith)) i);
        afrr_up = kw (signed (word 12 (omega arith)) i);
        afrr_down = kw (signed (word 16 (omega arith)) i);
        afrr_setpoint = kw (signed (word 20 (omega arith)) i);
        mfrr_target = kw (signed (word 24 (omega arith)) i);
        delivery_end = end_is i;
        deviation = record { 0 = twos_complement 32768 (half i) };
        status = high 2 i;
        call = high 3 i;
      }

  pub length_put : length put ≡ size
  length_put = simp (length-append, length-take, length-drop) (omega (arith, whole))

module _ (n : ℕ) (s : List ℕ) (whole : length s ≡ size) where
  pub record_moved : record_of (bytes.moved_back n s) ≡ moved_back n (record_of s)
  unfolding bytes.moved_back record_of
  record_moved = go (eqb (get_or s call_place 0) 1)
    where
      go :
          (t : Bool)
          → record_of (cond t (over s end_place (le4 (u32_at s end_place - n))) s) ≡ with_end (cond t (u32_at s end_place - n) (u32_at s end_place)) (record_of s)
      go true = record_put s (u32_at s end_place - n) whole
      go false = refl

  pub length_moved : length (bytes.moved_back n s) ≡ size
  unfolding bytes.moved_back
  length_moved = go (eqb (get_or s call_place 0) 1)
    where
      go : (t : Bool) → length (cond t (over s end_place (le4 (u32_at s end_place - n))) s) ≡ size
      go true = length_put s (u32_at s end_place - n) whole
      go false = whole
