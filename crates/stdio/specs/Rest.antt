-- What is printed of a book from where it stands on.
use Rattle.std.specs.Prelude.{List, ℕ, ◌++◌}
use Rattle.pieces.specs.Pieces.{Reading, bytes_in, last_in}

-- where the bytes s follow and no more
unfoldable pub rest_of : Reading → List ℕ → List ℕ
rest_of r s = (bytes_in r.standing r.part s).text ++ last_in (bytes_in r.standing r.part s).standing
