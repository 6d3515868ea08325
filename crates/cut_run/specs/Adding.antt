-- What the runs of a cut book's seconds and blocks ask and answer.
use Rattle.std.specs.Prelude.{◌≡◌, ℕ, ◌+◌, ◌*◌}
use Rattle.block.specs.Places.{per_block}
use Rattle.codec.specs.declared.lent.Lent.{Lent}
use Rattle.line.specs.Widths.{row_room}
use Rattle.report.specs.Running.{Verdict, Adds}
use Rattle.report.specs.Text.{second_room}
use Rattle.cut.specs.Running.{CutRan}
use Rattle.cut_run.specs.declared.Cut.{Cut}

-- room for the lines of a second and the sum line before it, and for those of a block
abbrev pub cut_room : ℕ
cut_room = row_room + second_room

abbrev pub cut_block_room : ℕ
cut_block_room = per_block * cut_room

-- with text of at most m bytes put into the lent buffer t, which is u then; the cut c is d then, and v is the verdict
pub record CutAdds (m : ℕ) (t u : Lent) (c d : Cut) (v : Verdict) (w : CutRan) : Type 0 where
  pub adds : Adds m t u d.kept v w.ran
  pub handed : d.handed ≡ w.handed
  pub plan : d.plan ≡ c.plan
  pub cut_at : d.at ≡ c.at
