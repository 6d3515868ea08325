-- What is printed from where the book stands on, after some bytes, where none are wanted and from the first byte. Assumes nothing.
use Rattle.std.proofs.Common.{◌≡◌, refl, List, [], ◌++◌, append_assoc, ℕ, ◌<◌, length}
use Rattle.std.specs.Prelude.{Option, Some, None, IfSome}
use Rattle.sheet.specs.declared.Sheet.{Sheet}
use Rattle.sheet.specs.Sheet.{InRange}
use Rattle.block.specs.Places.{block_size}
use Rattle.report.specs.declared.Form.{Form}
use Rattle.pieces.specs.Pieces.{Reading, unread, bytes_in, last_in, wanted_in, Takes}
use Rattle.pieces.proofs.Bytes.{cut}
use Rattle.printed.specs.Printed.{printed}
use Rattle.printed.proofs.Claims.{wanted_none}
use Rattle.printed.proofs.Told.{whole}
use Rattle.stdio.specs.Rest.{rest_of}

pub whatever : {P : List ℕ → Type 0} (o : Option (List ℕ)) → ((s : List ℕ) → P s) → IfSome o P
whatever None h = tt
whatever (Some s) h = h s

pub goes_on : {m n : ℕ} (r : Reading) (s : List ℕ) {b e : List ℕ} {v : Reading} → Takes m b e n v (bytes_in r.standing r.part s) → (next : List ℕ) → (bytes_in r.standing r.part s).text ++ rest_of v next ≡ rest_of r (s ++ next)
unfolding rest_of
goes_on r s f next = rw (f.reading, cut r.standing r.part s next) (rw append_assoc)

pub at_end : (r : Reading) → last_in r.standing ≡ rest_of r []
unfolding rest_of bytes_in
at_end r = refl

-- whatever follows then, it adds nothing
pub no_more : (r : Reading) → length r.part < block_size → wanted_in r.standing (length r.part) ≡ 0 → (s : List ℕ) → rest_of r [] ≡ rest_of r s
unfolding rest_of
no_more r short e s =
    let none = wanted_none r.standing (length r.part) short e in
    rw ((none [] r.part).0, (none [] r.part).1, (none s r.part).0, (none s r.part).1)

pub from_start : (sh : Sheet) (f : Form) → InRange sh → rest_of (unread sh f) ≡ printed sh f
unfolding rest_of
from_start sh f i = λ j s. whole sh i f s j
