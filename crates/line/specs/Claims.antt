-- What holds of every line, and document 01's example. The proofs are `lengths` and `examples` of proofs/Claims.antt, and `silent` of
-- proofs/Short.antt.
use Rattle.std.specs.Prelude.{◌≡◌, ◌↔◌, [], ℕ, ◌^◌, ◌≤◌, ◌<◌, length, ℤ, pos, negsuc}
use Prim.Native.Char.{code}
use Rattle.power.specs.Units.{kw}
use Rattle.row.specs.declared.Rounding.{Rounding}
use Rattle.row.specs.declared.KindRow.{KindRow}
use Rattle.row.specs.declared.Row.{Row}
use Rattle.row.specs.declared.sums.Sums.{Sums}
use Rattle.row.specs.declared.side.SideCount.{SideCount}
use Rattle.row.specs.declared.side.KindCounts.{KindCounts}
use Rattle.row.specs.declared.side.PlantCounts.{PlantCounts}
use Rattle.row.specs.Row.{off_rounding, off_row, kinds_of, AllInBand}
use Rattle.row.specs.Fits.{Row32, Sums64}
use Rattle.line.specs.Text.{ascii, decimal}
use Rattle.line.specs.Widths.{line_room, row_room}
use Rattle.line.specs.Line.{second_text, sum_text, refusal_text, row_text}
use Rattle.line.specs.Short.{short_text, counts_text}
use Rattle.line.specs.Shares.{shares_text}

-- the seconds of a count are an unsigned 32-bit number, its kW-seconds a 64-bit one
pub record Side64 (c : SideCount) : Type 0 where
  pub seconds : c.seconds < 2 ^ 32
  pub kw_seconds_is : c.kw_seconds < 2 ^ 64

pub record KindSides64 (c : KindCounts) : Type 0 where
  pub below : Side64 c.below
  pub above : Side64 c.above

pub record Counts64 (c : PlantCounts) : Type 0 where
  pub fcr : KindSides64 c.fcr
  pub afrr : KindSides64 c.afrr
  pub mfrr : KindSides64 c.mfrr

-- "A row's figures are signed 32-bit numbers and the four sums 64-bit ones, so 200 bytes always suffice", and 256 for the line with every figure and for that of the
-- shares.
-- That rows and sums are so is shown of every list (`RowsHold`, `Balanced` of book/specs/Claims.antt).
pub record Lengths : Type 0 where
  pub second : (t : ℕ) (u a b : Row) → t < 2 ^ 32 → Row32 u → Row32 a → Row32 b → length (second_text t u a b) ≤ line_room
  pub sums : (s : Sums) → Sums64 s → length (sum_text s) ≤ line_room
  pub refusal : (n t : ℕ) → n < 2 ^ 32 → t < 2 ^ 32 → length (refusal_text n t) ≤ line_room
  pub row : (t letter : ℕ) (x : Row) → t < 2 ^ 32 → Row32 x → length (row_text t letter x) ≤ row_room
  pub shares : (t letter : ℕ) (x : Row) → t < 2 ^ 32 → Row32 x → length (shares_text t letter x) ≤ row_room
  -- and for a plant's lines of kinds outside their bands, and of counts
  pub short : (t letter : ℕ) (x : Row) → t < 2 ^ 32 → Row32 x → length (short_text t letter x) ≤ row_room
  pub counts : (letter : ℕ) (c : PlantCounts) → Counts64 c → length (counts_text letter c) ≤ row_room

-- a plant has no line in a second exactly when all its kinds lie within their bands
pub record Silent : Type 0 where
  pub silent : (t letter : ℕ) (x : Row) → (short_text t letter x ≡ []) ↔ AllInBand (kinds_of x)

abbrev pub kind : ℤ → ℤ → ℤ → ℤ → ℤ → KindRow
kind setpoint low high share actual = record { setpoint = kw setpoint; band = record { low = kw low; high = kw high }; share = kw share; actual = kw actual; rounding = off_rounding }

abbrev pub row : KindRow → KindRow → KindRow → ℤ → Row
row f a m o = record { fcr = f; afrr = a; mfrr = m; «open» = kw o; error = kw (pos 0); total = 0 }

-- a row by its actual values alone
abbrev pub actuals : ℤ → ℤ → ℤ → ℤ → Row
actuals f a m o = row (kind (pos 0) (pos 0) (pos 0) (pos 0) f) (kind (pos 0) (pos 0) (pos 0) (pos 0) a) (kind (pos 0) (pos 0) (pos 0) (pos 0) m) o

-- a row by what was shared: error, T, and of each kind tolerance, rounded-down share, remainder and extra kW
abbrev pub rounding : ℕ → ℕ → ℕ → ℕ → Rounding
rounding t f r x = record { tolerance = t; floor = f; remainder = r; extra = x }

abbrev pub rounded : Rounding → KindRow
rounded r = record { setpoint = kw (pos 0); band = off_row.band; share = kw (pos 0); actual = kw (pos 0); rounding = r }

abbrev pub shared : ℤ → ℕ → Rounding → Rounding → Rounding → Row
shared e T f a m = record { fcr = rounded f; afrr = rounded a; mfrr = rounded m; «open» = kw (pos 0); error = kw e; total = T }

abbrev pub sums : ℤ → ℤ → ℤ → ℤ → Sums
sums a b o d = record { a = record { 0 = a }; b = record { 0 = b }; «open» = record { 0 = o }; due = record { 0 = d } }

-- counts by their figures
abbrev pub counted : ℕ → ℕ → ℕ → ℕ → KindCounts
counted a b c d = record { below = record { seconds = a; kw_seconds = b }; above = record { seconds = c; kw_seconds = d } }

-- the full case's two lines and the shares of its unit, a refusal, the order of a row's figures, and the least numbers
pub record Examples : Type 0 where
  pub full_second_lem : second_text 0 (actuals (negsuc 78) (pos 10) (pos 0) (pos 0)) (actuals (negsuc 78) (pos 0) (pos 0) (pos 0)) (actuals (pos 0) (pos 30) (pos 0) (pos 0)) ≡ ascii "0 U -79 10 0 0 A -79 0 0 0 B 0 30 0 0\n"
  pub full_sum : sum_text (sums (negsuc 78) (pos 30) (pos 0) (negsuc 48)) ≡ ascii "sum A -79 B 30 open 0 due -49\n"
  pub refused : refusal_text 12 89999 ≡ ascii "refused 12 at 89999\n"
  pub every_figure : row_text 7 (code "U") (row (kind (pos 1) (pos 2) (pos 3) (pos 4) (pos 5)) (kind (pos 6) (pos 7) (pos 8) (pos 9) (pos 10)) (kind (pos 11) (pos 12) (pos 13) (pos 14) (pos 15)) (negsuc 15)) ≡ ascii "7 U 1 2 3 4 5 6 7 8 9 10 11 12 13 14 15 -16\n"
  pub full_shares : shares_text 0 (code "U") (shared (pos 31) 150 (rounding 100 20 100 1) (rounding 50 10 50 0) off_rounding) ≡ ascii "0 U 31 150 100 20 100 1 50 10 50 0 0 0 0 0\n"
  pub every_part : shares_text 7 (code "B") (shared (negsuc 15) 13 (rounding 1 2 3 4) (rounding 5 6 7 8) (rounding 9 10 11 12)) ≡ ascii "7 B -16 13 1 2 3 4 5 6 7 8 9 10 11 12\n"
  pub short : short_text 1020 (code "U") (row (kind (pos 0) (pos 0) (pos 7) (pos 0) (pos 7)) (kind (pos 0) (negsuc 4) (pos 5) (pos 0) (negsuc 11)) (kind (pos 0) (negsuc 2) (pos 4) (pos 0) (pos 5)) (pos 0)) ≡ ascii "1020 U aFRR below 7\n1020 U mFRR above 1\n"
  pub counts : counts_text (code "U") (record { fcr = counted 1 2 3 4; afrr = counted 5 6 7 8; mfrr = counted 9 10 11 12 }) ≡ ascii "U FCR below 1 2 above 3 4\nU aFRR below 5 6 above 7 8\nU mFRR below 9 10 above 11 12\n"
  pub least_32 : decimal (negsuc 2147483647) ≡ ascii "-2147483648"
  pub least_64 : decimal (negsuc 9223372036854775807) ≡ ascii "-9223372036854775808"
