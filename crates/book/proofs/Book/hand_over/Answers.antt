-- A handover goes by the closing book's length.
use Rattle.std.proofs.Common.{ap, not}
use Rattle.book.proofs.Handing.{refused, opened}
use Rattle.book.proofs.Book.hand_over.Goals as goal

pub returns-then-not-is_whole : goal.returns-then-not-is_whole
returns-then-not-is_whole c = refused _ c.requires c.is_whole.ensures (ap not c.if-not-is_whole.true)

pub returns : goal.returns
returns c =
    opened _ c.requires c.is_whole.ensures (ap not c.if-not-is_whole.false)
    c.handed_over-self.ensures c.handed_over-self-2.ensures c.handed_over-self-3.ensures
