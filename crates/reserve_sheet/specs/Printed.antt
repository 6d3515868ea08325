-- What is printed of a sheet and the book after it: from all the bytes of standard input to all those of standard output.
use Rattle.std.specs.Prelude.{ℕ, zero, suc, List, take, drop}
use Rattle.line.specs.Line.{refusal_text}
use Rattle.report.specs.declared.Form.TheVariants as form
use Rattle.printed.specs.Printed.{printed}
use Rattle.reserve_sheet.specs.Form.{sheet_size, sheet_of, form_number}

-- "prints `refused 30 at 0`, or what `reserve_rows` prints under that sheet"
abbrev pub sheet_printed_by : ℕ → List ℕ → List ℕ → List ℕ
sheet_printed_by zero sheet book = printed (sheet_of sheet) form.Figures book
sheet_printed_by (suc n) sheet book = refusal_text (suc n) 0

unfoldable pub sheet_printed : List ℕ → List ℕ
sheet_printed s = sheet_printed_by (form_number (take sheet_size s)) (take sheet_size s) (drop sheet_size s)
