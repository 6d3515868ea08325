-- The lines of kinds outside their bands: none where all lie within, and how long they and the counts are. Assumes nothing.
use Rattle.std.proofs.Common.{◌≡◌, refl, ap, Bool, true, false, cond, ◌↔◌, List, [], ◌∷◌, ◌++◌, ℕ, ◌^◌, ◌≤◌, ◌<◌, arith, length, length-append, nat_abs, ◌-ℤ◌}
use Rattle.std.specs.Int.Signed.{lt_z}
use Rattle.row.specs.declared.KindRow.{KindRow}
use Rattle.row.specs.declared.Row.{Row}
use Rattle.row.specs.declared.side.BandSide.{BandSide}
use Rattle.row.specs.declared.side.BandSide.TheVariants.{Within, Below, Above}
use Rattle.row.specs.declared.side.SideCount.{SideCount}
use Rattle.row.specs.declared.side.KindCounts.{KindCounts}
use Rattle.row.specs.declared.side.PlantCounts.{PlantCounts}
use Rattle.row.specs.Row.{kinds_of, InBand, AllInBand}
use Rattle.row.specs.Side.{side_of, kw_below, kw_above}
use Rattle.row.specs.Fits.{Kind32, Row32}
use Rattle.row.proofs.Claims as row
use Rattle.row.proofs.Sides.{excess}
use Rattle.line.specs.Text.{ascii}
use Rattle.line.specs.Widths.{row_room, name_width, side_width, outside_width, side_count_width, counts_width}
use Rattle.line.specs.Short.{outside_text, side_text, short_text, side_count_text, kind_counts_text, counts_text}
use Rattle.line.specs.Claims.{Side64, KindSides64, Counts64, Silent}
use Rattle.line.proofs.Lengths.{count_most, amount_most}

-- ---- no line

neither : (x y : List ℕ) → x ++ y ≡ [] → (x ≡ []) × (y ≡ [])
neither [] y e = (refl, e)
neither (a ∷ x) y e = let z : ◌≡◌ {A = ℕ} 0 1 = cc in absurd (omega arith)

some_line : (t letter : ℕ) (kind side : List ℕ) (kw : ℕ) → outside_text t letter kind side kw ≡ [] → ⊥
unfolding outside_text
some_line t letter kind side kw e = omega (arith, simp length-append at (ap length e))

no_line : (t letter : ℕ) (kind : List ℕ) (s : BandSide) → side_text t letter kind s ≡ [] → s ≡ Within
no_line t letter kind Within e = refl
no_line t letter kind (Below kw) e = absurd (some_line t letter kind _ kw e)
no_line t letter kind (Above kw) e = absurd (some_line t letter kind _ kw e)

kind_silent : (t letter : ℕ) (kind : List ℕ) (k : KindRow) → (side_text t letter kind (side_of k) ≡ []) ↔ InBand k
kind_silent t letter kind k =
    let w = (row.claims).within k in
    ((λ e. w.0 (no_line t letter kind (side_of k) e)), (λ i. rw (w.1 i)))

first_in_lem : (k : KindRow) (ks : List KindRow) → AllInBand (k ∷ ks) → InBand k
first_in_lem k ks w = w.0

rest_in : (k : KindRow) (ks : List KindRow) → AllInBand (k ∷ ks) → AllInBand ks
rest_in k ks w = w.1

silent_is : (t letter : ℕ) (x : Row) → (short_text t letter x ≡ []) ↔ AllInBand (kinds_of x)
unfolding short_text
silent_is t letter x =
    let f = kind_silent t letter (ascii " FCR") x.fcr in
    let a = kind_silent t letter (ascii " aFRR") x.afrr in
    let m = kind_silent t letter (ascii " mFRR") x.mfrr in (
      (λ e.
          let p = neither _ _ e in
          let q = neither _ _ p.1 in
          (f.0 p.0, (a.0 q.0, (m.0 q.1, tt)))),
      (λ w.
          let r = rest_in x.fcr (x.afrr ∷ x.mfrr ∷ []) w in
          let l = rest_in x.afrr (x.mfrr ∷ []) r in
          rw (f.1 (first_in_lem x.fcr (x.afrr ∷ x.mfrr ∷ []) w), a.1 (first_in_lem x.afrr (x.mfrr ∷ []) r), m.1 (first_in_lem x.mfrr [] l))),
    )

pub silent : Silent
silent = record { silent = silent_is }

-- ---- how long

outside_most : (t letter : ℕ) (kind side : List ℕ) (kw : ℕ) → t < 2 ^ 32 → kw < 2 ^ 32 → length kind ≤ name_width → length side ≤ side_width → length (outside_text t letter kind side kw) ≤ outside_width
unfolding outside_text
outside_most t letter kind side kw h k n s =
    let count = count_most t h in
    let power = count_most kw k in
    simp length-append (omega arith)

side_most : (t letter : ℕ) (kind : List ℕ) (s : BandSide) → t < 2 ^ 32 → kw_below s < 2 ^ 32 → kw_above s < 2 ^ 32 → length kind ≤ name_width → length (side_text t letter kind s) ≤ outside_width
side_most t letter kind Within h b a n = omega arith
side_most t letter kind (Below kw) h b a n = outside_most t letter kind (ascii " below ") kw h b n (omega arith)
side_most t letter kind (Above kw) h b a n = outside_most t letter kind (ascii " above ") kw h a n (omega arith)

-- no 32-bit number is as far as 2 ^ 32 from another
below_small : (k : KindRow) → Kind32 k → kw_below (side_of k) < 2 ^ 32
unfolding side_of
below_small k f = go (lt_z k.actual.0 k.band.low.0) refl (lt_z k.band.high.0 k.actual.0)
  where
    go : (b : Bool) → lt_z k.actual.0 k.band.low.0 ≡ b → (t : Bool) → kw_below (cond b (Below (nat_abs (k.band.low.0 -ℤ k.actual.0))) (cond t (Above (nat_abs (k.actual.0 -ℤ k.band.high.0))) Within)) < 2 ^ 32
    go true e t = (excess k.band.low.0 k.actual.0 f.low f.actual e).small.fits
    go false e true = omega arith
    go false e false = omega arith

above_small : (k : KindRow) → Kind32 k → kw_above (side_of k) < 2 ^ 32
unfolding side_of
above_small k f = go (lt_z k.actual.0 k.band.low.0) (lt_z k.band.high.0 k.actual.0) refl
  where
    go : (b t : Bool) → lt_z k.band.high.0 k.actual.0 ≡ t → kw_above (cond b (Below (nat_abs (k.band.low.0 -ℤ k.actual.0))) (cond t (Above (nat_abs (k.actual.0 -ℤ k.band.high.0))) Within)) < 2 ^ 32
    go true t e = omega arith
    go false true e = (excess k.actual.0 k.band.high.0 f.actual f.high e).small.fits
    go false false e = omega arith

pub short_most : (t letter : ℕ) (x : Row) → t < 2 ^ 32 → Row32 x → length (short_text t letter x) ≤ row_room
unfolding short_text
short_most t letter x h f =
    let fcr = side_most t letter (ascii " FCR") (side_of x.fcr) h (below_small x.fcr f.fcr) (above_small x.fcr f.fcr) (omega arith) in
    let afrr = side_most t letter (ascii " aFRR") (side_of x.afrr) h (below_small x.afrr f.afrr) (above_small x.afrr f.afrr) (omega arith) in
    let mfrr = side_most t letter (ascii " mFRR") (side_of x.mfrr) h (below_small x.mfrr f.mfrr) (above_small x.mfrr f.mfrr) (omega arith) in
    simp length-append (omega arith)

side_count_most : (side : List ℕ) (c : SideCount) → Side64 c → length side ≤ side_width → length (side_count_text side c) ≤ side_count_width
unfolding side_count_text
side_count_most side c f s =
    let seconds = count_most c.seconds f.seconds in
    let amount = amount_most c.kw_seconds f.kw_seconds_is in
    simp length-append (omega arith)

kind_counts_most : (letter : ℕ) (kind : List ℕ) (c : KindCounts) → KindSides64 c → length kind ≤ name_width → length (kind_counts_text letter kind c) ≤ counts_width
unfolding kind_counts_text
kind_counts_most letter kind c f n =
    let below = side_count_most (ascii " below ") c.below f.below (omega arith) in
    let above = side_count_most (ascii " above ") c.above f.above (omega arith) in
    simp length-append (omega arith)

pub counts_most : (letter : ℕ) (c : PlantCounts) → Counts64 c → length (counts_text letter c) ≤ row_room
unfolding counts_text
counts_most letter c f =
    let fcr = kind_counts_most letter (ascii " FCR") c.fcr f.fcr (omega arith) in
    let afrr = kind_counts_most letter (ascii " aFRR") c.afrr f.afrr (omega arith) in
    let mfrr = kind_counts_most letter (ascii " mFRR") c.mfrr f.mfrr (omega arith) in
    simp length-append (omega arith)
