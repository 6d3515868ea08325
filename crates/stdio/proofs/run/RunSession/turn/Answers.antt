-- The text of what was read is sent from the buffer's front; where none is wanted, none would count.
use Rattle.std.proofs.Common.{◌<◌, ◌≤◌, length, take, ◌∙◌, sym, subst, arith, length-take-le}
use Rattle.std.specs.Io.KnownBytes.{Appends}
use Rattle.std.proofs.KnownBytes.{Appends-nil}
use Rattle.std.proofs.lemmas.List.{take-append-le}
use Rattle.codec.proofs.Puts.{front}
use Rattle.pieces.specs.Pieces.{bytes_in}
use Rattle.pieces.specs.Placed.{placed}
use Rattle.stdio.proofs.Rest.{whatever, goes_on, no_more}
use Rattle.stdio.proofs.run.RunSession.turn.Goals as goal

pub returns-then-wanted-eq0-clause-ended : goal.returns-then-wanted-eq0-clause-ended
returns-then-wanted-eq0-clause-ended g c =
    let none = no_more (placed c.self.inside.reading) c.wanted-wanted.ensures.short (sym c.wanted-wanted.ensures.is ∙ c.if-wanted-eq0.true) in
    rw (← c.self.view_is) (λ u. record { enough = whatever _ none; unsent = Appends-nil _ })

pub returns-clause-went : goal.returns-clause-went
returns-clause-went g c =
    let r = placed c.self.inside.reading in
    let read = take c.in_ok-n.n c.receive.new.buf in
    let bound : c.in_ok-n.n ≤ length c.receive.new.buf = c.in_ok-n.ensures.bound in
    let taken = rw (take-append-le c.in_ok-n.n c.receive.new.buf _ bound) at c.take-used.ensures in
    let some : 0 < length read = rw (length-take-le c.in_ok-n.n c.receive.new.buf bound) (omega (arith, c.if-n-eq0.false)) in
    rw (← c.self.view_is) (λ u. record {
      bytes = read;
      text = (bytes_in r.standing r.part read).text;
      some = some;
      read = c.in_ok-n.ensures.bytes.0;
      sent = subst (Appends _ _) (front taken.text) c.in_ok-send.ensures;
      told = goes_on r read taken;
    })
