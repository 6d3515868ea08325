-- What is printed of a book (01, "Blocks and text"): "prints a line a second, then a sum line".
use Rattle.std.specs.Prelude.{ℕ, ◌*◌, List, [], ◌++◌}
use Prim.Native.Char.{code}
use Rattle.row.specs.declared.Row.{Row}
use Rattle.block.specs.Places.{per_block}
use Rattle.line.specs.Line.{second_text, row_text, sum_text, refusal_text}
use Rattle.line.specs.Short.{short_text, counts_text}
use Rattle.line.specs.Shares.{shares_text}
use Rattle.line.specs.Widths.{line_room, row_room}
use Rattle.codec.specs.declared.lent.Lent.{Lent}
use Rattle.codec.specs.Lent.{Grown}
use Rattle.tally.specs.declared.Tally.{Tally}
use Rattle.report.specs.declared.Form.{Form}
use Rattle.report.specs.declared.Form.TheVariants.{Line, Figures, Short, Shares}
use Rattle.report.specs.declared.lines.TextLine.{TextLine}
use Rattle.report.specs.declared.lines.TextLine.TheVariants as text

-- each line's text, and the least room that its writer takes
abbrev pub text_of : TextLine → List ℕ
text_of (text.Second t u a b) = second_text t u a b
text_of (text.Plant x) = row_text x.second x.letter x.row
text_of (text.Sums s) = sum_text s
text_of (text.Refusal n t) = refusal_text n t
text_of (text.Short x) = short_text x.second x.letter x.row
text_of (text.Counts letter c) = counts_text letter c
text_of (text.Shares x) = shares_text x.second x.letter x.row

abbrev pub room_of : TextLine → ℕ
room_of (text.Second t u a b) = line_room
room_of (text.Plant x) = row_room
room_of (text.Sums s) = line_room
room_of (text.Refusal n t) = line_room
room_of (text.Short x) = row_room
room_of (text.Counts letter c) = row_room
room_of (text.Shares x) = row_room

-- the accepted second t: its line, or a line with every figure for U, A and B each, or a line for each kind outside its band, or a line with what
-- was shared for U, A and B each
abbrev pub lines_of : Form → ℕ → Row → Row → Row → List ℕ
lines_of Line t u a b = second_text t u a b
lines_of Figures t u a b = row_text t (code "U") u ++ (row_text t (code "A") a ++ row_text t (code "B") b)
lines_of Short t u a b = short_text t (code "U") u ++ (short_text t (code "A") a ++ short_text t (code "B") b)
lines_of Shares t u a b = shares_text t (code "U") u ++ (shares_text t (code "A") a ++ shares_text t (code "B") b)

-- nine lines of counts, those of U, A and B in turn
abbrev pub tally_text : Tally → List ℕ
tally_text q = counts_text (code "U") q.unit ++ (counts_text (code "A") q.a ++ counts_text (code "B") q.b)

-- what stands before the last line
abbrev pub counts_of : Form → Tally → List ℕ
counts_of Line q = []
counts_of Figures q = []
counts_of Short q = tally_text q
counts_of Shares q = []

-- the bytes that the lines of a second take at most, and those of a block
abbrev pub second_room : ℕ
second_room = 3 * row_room

abbrev pub block_room : ℕ
block_room = per_block * second_room

-- ---- three lines

-- the lines of U, A and B, each as `Gives` has it from its letter and what is told of the plant, are put one after the other
pub record PlantsPut {T : Type 0} (Gives : ℕ → T → TextLine → Type 0) (unit a b : T) (t v : Lent) : Type 0 where
  pub u : TextLine
  pub x : TextLine
  pub y : TextLine
  pub gives_u : Gives (code "U") unit u
  pub gives_a : Gives (code "A") a x
  pub gives_b : Gives (code "B") b y
  pub put : Grown second_room t v (text_of u ++ (text_of x ++ text_of y))
