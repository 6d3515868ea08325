-- What a function leaves that puts bytes into a lent buffer.
use Rattle.std.specs.Prelude.{◌≡◌, ℕ, ◌+◌, ◌≤◌, List, length}
use Rattle.codec.specs.declared.lent.Lent.{Lent}
use Rattle.codec.specs.Put.{Put}

-- the buffer t has room for m bytes more
abbrev pub HasRoom : ℕ → Lent → Type 0
HasRoom m t = t.at + m ≤ length t.buf.now

-- after t, with at most m bytes more, which are `more`, the same buffer is u
pub record Grown (m : ℕ) (t u : Lent) (more : List ℕ) : Type 0 where
  pub same : u.buf.ghost_name ≡ t.buf.ghost_name
  pub long : length u.buf.now ≡ length t.buf.now
  pub put : Put m t.buf.now u.buf.now t.at u.at more
