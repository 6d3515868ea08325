-- What a turn reads and sends, where the bytes that the reader has left and those that the writer holds are known. `rest` says what is printed
-- from here on, where these bytes follow.
use Rattle.std.specs.Prelude.{◌≡◌, ℕ, ◌-◌, ◌^◌, ◌<◌, List, [], ◌++◌, length, IfSome, Option}
use Rattle.std.specs.Io.KnownBytes.{Appends, Consumes}

-- bytes are read, and what is printed of them is sent
pub record Went (rest rest_after : List ℕ → List ℕ) (input left before after : Option (List ℕ)) : Type 0 where
  pub bytes : List ℕ
  pub text : List ℕ
  pub some : 0 < length bytes
  pub read : Consumes input left bytes
  pub sent : Appends before after text
  pub told : (next : List ℕ) → text ++ rest_after next ≡ rest (bytes ++ next)

-- no bytes are left that would change what is printed
pub record Ended (rest rest_after : List ℕ → List ℕ) (input before after : Option (List ℕ)) : Type 0 where
  pub enough : IfSome input (λ s. rest_after [] ≡ rest s)
  pub unsent : Appends before after []

-- what is printed of all the bytes of the input is sent, unless there are more than turns can be counted
abbrev pub AllSent : (List ℕ → List ℕ) → Option (List ℕ) → Option (List ℕ) → Option (List ℕ) → Type 0
AllSent rest input before after = IfSome input (λ s. length s < 2 ^ 64 - 1 → Appends before after (rest s))
