-- The text of each line (01, "Blocks and text"): "One space stands between fields and a line feed ends each line."
use Rattle.std.specs.Prelude.{ℕ, List, [], ◌∷◌, ◌++◌}
use Prim.Native.Char.{code}
use Rattle.row.specs.declared.KindRow.{KindRow}
use Rattle.row.specs.declared.Row.{Row}
use Rattle.row.specs.declared.sums.Sums.{Sums}
use Rattle.line.specs.Text.{ascii, digits, start_text, field, named}

-- "each letter is followed by the actual values of FCR, aFRR, mFRR, then open"
unfoldable pub plant_text : ℕ → Row → List ℕ
plant_text letter x = ascii " " ++ ((letter ∷ []) ++ (field x.fcr.actual.0 ++ (field x.afrr.actual.0 ++ (field x.mfrr.actual.0 ++ field x.«open».0))))

-- "A line starts with its second": 0 U -79 10 0 0 A -79 0 0 0 B 0 30 0 0
unfoldable pub second_text : ℕ → Row → Row → Row → List ℕ
second_text t u a b = digits t ++ (plant_text (code "U") u ++ (plant_text (code "A") a ++ (plant_text (code "B") b ++ ascii "\n")))

-- sum A -79 B 30 open 0 due -49
unfoldable pub sum_text : Sums → List ℕ
sum_text s = named (ascii "sum A ") s.a.0 ++ (named (ascii " B ") s.b.0 ++ (named (ascii " open ") s.«open».0 ++ (named (ascii " due ") s.due.0 ++ ascii "\n")))

-- "A refusal prints `refused N at S` .., S being seconds accepted so far."
unfoldable pub refusal_text : ℕ → ℕ → List ℕ
refusal_text n s = ascii "refused " ++ (digits n ++ (ascii " at " ++ (digits s ++ ascii "\n")))

-- every figure of a kind: setpoint, published band, share and actual
unfoldable pub kind_text : KindRow → List ℕ
kind_text k = field k.setpoint.0 ++ (field k.band.low.0 ++ (field k.band.high.0 ++ (field k.share.0 ++ field k.actual.0)))

-- a plant's line with every figure of its row: the second, the letter, FCR, aFRR, mFRR, then open
unfoldable pub row_text : ℕ → ℕ → Row → List ℕ
row_text t letter x = start_text t letter ++ (kind_text x.fcr ++ (kind_text x.afrr ++ (kind_text x.mfrr ++ (field x.«open».0 ++ ascii "\n"))))
