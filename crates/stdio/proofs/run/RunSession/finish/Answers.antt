-- The last line is sent from the buffer's front.
use Rattle.std.proofs.Common.{◌∙◌, subst}
use Rattle.std.proofs.lemmas.Result.{on_ok_weaker}
use Rattle.std.specs.Io.KnownBytes.{Appends}
use Rattle.codec.proofs.Puts.{front}
use Rattle.pieces.specs.Placed.{placed}
use Rattle.stdio.proofs.Rest.{at_end}
use Rattle.stdio.proofs.run.RunSession.finish.Goals as goal

pub returns : goal.returns
returns g c =
    let text = front c.last_line-end.ensures ∙ at_end (placed c.self.inside.reading) in
    rw (← c.self.view_is) (on_ok_weaker c.send.result (λ sent. subst (Appends _ _) text sent) c.send.ensures)
