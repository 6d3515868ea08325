-- What an answer says in document 01's terms (01, "When a book is turned down").
use Rattle.std.specs.Prelude.{ℕ, zero, suc, List}

-- values, or a refusal number and nothing else: "Nothing is returned", "only the refusal number comes back"
pub data Said : Type 0 where
  values : List ℕ → Said
  refused : ℕ → Said

abbrev pub answered : ℕ → List ℕ → Said
answered zero vs = values vs
answered (suc n) vs = refused (suc n)
