-- Every line has room, and document 01's example. Assumes nothing.
use Rattle.std.proofs.Common.{refl, ap, List, ◌++◌, ℕ, ◌+◌, ◌^◌, ◌≤◌, ◌<◌, arith, length, length-append, lit<, ℤ, w64, SFits}
use Prim.Native.Char.{code}
use Rattle.row.specs.declared.Rounding.{Rounding}
use Rattle.row.specs.declared.KindRow.{KindRow}
use Rattle.row.specs.declared.Row.{Row}
use Rattle.row.specs.declared.sums.Sums.{Sums}
use Rattle.line.specs.Text.{ascii, digits, digits_in, decimal, field, unsigned, named}
use Rattle.line.specs.Widths.{line_room, row_room, plant_width, kind_width, rounding_width, sum_width}
use Rattle.line.specs.Line.{plant_text, second_text, sum_text, refusal_text, kind_text, row_text}
use Rattle.row.specs.Fits.{Rounding32, Kind32, Row32, Sums64}
use Rattle.line.specs.Claims.{Lengths, Examples}
use Rattle.line.proofs.Digits.{digits_by}
use Rattle.row.specs.Side.{side_of}
use Rattle.line.specs.Short.{outside_text, short_text, side_count_text, kind_counts_text, counts_text}
use Rattle.line.specs.Shares.{rounding_text, roundings_text, shares_text}
use Rattle.line.proofs.Short.{short_most, counts_most}
use Rattle.line.proofs.Lengths.{count_most, decimal_64, field_most, unsigned_most}

plant_most : (l : ℕ) (x : Row) → Row32 x → length (plant_text l x) ≤ plant_width
unfolding plant_text
plant_most l x f =
    let fcr = field_most x.fcr.actual.0 f.fcr.actual in
    let afrr = field_most x.afrr.actual.0 f.afrr.actual in
    let mfrr = field_most x.mfrr.actual.0 f.mfrr.actual in
    let rest = field_most x.«open».0 f.«open» in
    simp length-append (omega arith)

kind_most : (k : KindRow) → Kind32 k → length (kind_text k) ≤ kind_width
unfolding kind_text
kind_most k f =
    let setpoint = field_most k.setpoint.0 f.setpoint in
    let low = field_most k.band.low.0 f.low in
    let high = field_most k.band.high.0 f.high in
    let share = field_most k.share.0 f.share in
    let actual = field_most k.actual.0 f.actual in
    simp length-append (omega arith)

named_most : (name : List ℕ) (z : ℤ) → SFits w64 z → length (named name z) ≤ length name + sum_width
unfolding named
named_most name z f = let d = decimal_64 z f in simp length-append (omega arith)

second_most : (t : ℕ) (u a b : Row) → t < 2 ^ 32 → Row32 u → Row32 a → Row32 b → length (second_text t u a b) ≤ line_room
unfolding second_text
second_most t u a b h f g k =
    let count = count_most t h in
    let unit = plant_most (code "U") u f in
    let first = plant_most (code "A") a g in
    let second = plant_most (code "B") b k in
    simp length-append (omega arith)

sum_most : (s : Sums) → Sums64 s → length (sum_text s) ≤ line_room
unfolding sum_text
sum_most s f =
    let a = named_most (ascii "sum A ") s.a.0 f.a in
    let b = named_most (ascii " B ") s.b.0 f.b in
    let o = named_most (ascii " open ") s.«open».0 f.«open» in
    let d = named_most (ascii " due ") s.due.0 f.due in
    simp length-append (omega arith)

refusal_most : (n t : ℕ) → n < 2 ^ 32 → t < 2 ^ 32 → length (refusal_text n t) ≤ line_room
unfolding refusal_text
refusal_most n t h k =
    let number = count_most n h in
    let count = count_most t k in
    simp length-append (omega arith)

row_most : (t letter : ℕ) (x : Row) → t < 2 ^ 32 → Row32 x → length (row_text t letter x) ≤ row_room
unfolding row_text
row_most t letter x h f =
    let count = count_most t h in
    let fcr = kind_most x.fcr f.fcr in
    let afrr = kind_most x.afrr f.afrr in
    let mfrr = kind_most x.mfrr f.mfrr in
    let rest = field_most x.«open».0 f.«open» in
    simp length-append (omega arith)

rounding_most : (r : Rounding) → Rounding32 r → length (rounding_text r) ≤ rounding_width
unfolding rounding_text
rounding_most r f =
    let tolerance = unsigned_most r.tolerance f.tolerance.fits in
    let floor = unsigned_most r.floor f.floor.fits in
    let remainder = unsigned_most r.remainder f.remainder.fits in
    let extra = unsigned_most r.extra f.extra.fits in
    simp length-append (omega arith)

shares_most : (t letter : ℕ) (x : Row) → t < 2 ^ 32 → Row32 x → length (shares_text t letter x) ≤ row_room
unfolding shares_text roundings_text
shares_most t letter x h f =
    let count = count_most t h in
    let error = field_most x.error.0 f.error in
    let total = unsigned_most x.total f.total.fits in
    let fcr = rounding_most x.fcr.rounding f.fcr.rounding in
    let afrr = rounding_most x.afrr.rounding f.afrr.rounding in
    let mfrr = rounding_most x.mfrr.rounding f.mfrr.rounding in
    simp length-append (omega arith)

pub lengths : Lengths
lengths = record { second = second_most; sums = sum_most; refusal = refusal_most; row = row_most; shares = shares_most; short = short_most; counts = counts_most }

pub examples : Examples
unfolding second_text plant_text sum_text named refusal_text row_text kind_text shares_text roundings_text rounding_text unsigned short_text outside_text side_of counts_text kind_counts_text side_count_text field decimal digits digits_in
examples =
    record {
      full_second_lem = refl;
      full_sum = refl;
      refused = refl;
      every_figure = refl;
      full_shares = refl;
      every_part = refl;
      short = refl;
      counts = refl;
      least_32 = ap (λ (l : List ℕ). ascii "-" ++ l) (digits_by 9 2147483648 (lit< tt));
      least_64 = ap (λ (l : List ℕ). ascii "-" ++ l) (digits_by 18 9223372036854775808 (lit< tt));
    }
