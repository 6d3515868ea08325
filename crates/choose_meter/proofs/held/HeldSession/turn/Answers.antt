-- What is read stands behind the bytes that were kept, and the text is sent from the buffer's front.
use Rattle.std.proofs.Common.{◌≡◌, ◌≤◌, ◌<◌, ◌+◌, ◌++◌, List, ℕ, take, length, arith, ap, ◌∙◌, subst, length-take-le, append_assoc}
use Rattle.std.specs.Io.KnownBytes.{Appends}
use Rattle.choose_meter.specs.Printed.{printed, whole_text, rest_of}
use Rattle.choose_meter.proofs.Laws.{received, more}
use Rattle.codec.proofs.Lents.{front}
use Rattle.choose_meter.proofs.held.HeldSession.turn.Goals as goal

pub returns-clause-went : goal.returns-clause-went
returns-clause-went g c =
    let h = c.args.self.now in
    let read = take c.in_ok-n.n c.receive.new.buf in
    let bound = c.in_ok-n.ensures.bound in
    let some : 0 < length read = rw (length-take-le c.in_ok-n.n c.receive.new.buf bound) (omega (arith, c.if-n-eq0.false)) in
    let filled : c.self.inside.filled ≤ length c.self.inside.bytes = omega (arith, c.self.invariant) in
    let joined : take (c.self.inside.filled + c.in_ok-n.n) _ ≡ h ++ read =
    received c.self.inside.filled _ c.in_ok-n.n c.self.inside.bytes c.receive.new.buf filled bound ∙ ap (λ (l : List ℕ). l ++ read) c.self.view_is
    in
    let text = c.filled.ensures ∙ front c.new-lines.ensures.start c.put_lines.ensures in
    λ u. record {
      bytes = read;
      text = whole_text (h ++ read);
      some = some;
      read = c.in_ok-n.ensures.bytes.0;
      sent = subst (Appends _ _) (text ∙ ap whole_text joined) c.in_ok-send.ensures;
      told =
          λ next.
          ap (λ (l : List ℕ). whole_text (h ++ read) ++ printed (l ++ next)) (c.keep-filled.ensures.begun ∙ ap rest_of joined)
          ∙ more (h ++ read) next
          ∙ ap printed (append_assoc h read next);
    }
