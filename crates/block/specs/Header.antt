-- "Header: 0-3 'RLIW', 4-5 version 1, 6 owner, 8-11 seconds in the book. .. All else is 0." (01, "Blocks and text")
use Rattle.std.specs.Prelude.{ℕ, not, List, [], ◌∷◌, length, get_or, eqb, ltb, Result, Ok, Err}
use Prim.Native.Char.{code}
use Rattle.refusals.specs.declared.Refusal.{Refusal}
use Rattle.refusals.specs.Refusals.{number_of}
use Rattle.block.specs.declared.Header.{Header}
use Rattle.codec.specs.Little.{u16_at, u32_at}
use Rattle.record.specs.Record.{most_seconds, all_kinds}
use Rattle.block.specs.Places.{block_size, check_at, name_at, version_at, version, owner_at, spare_at, book_seconds_at, header_end}
use Rattle.block.specs.Bytes.{part, all_zero}
use Rattle.block.specs.Check.{check_of}
use Rattle.numbers.specs.Rules.{Rule, refuse, first, differ}
use Rattle.block.specs.Said.{Said, values, refused, answered}

-- the first four bytes
abbrev pub name : List ℕ
name = code "R" ∷ code "L" ∷ code "I" ∷ code "W" ∷ []

abbrev pub owner_of : List ℕ → ℕ
owner_of s = get_or s owner_at 0

abbrev pub seconds_of : List ℕ → ℕ
seconds_of s = u32_at s book_seconds_at

-- "16 owner above 7; 17 seconds 0 or above 90,000"
abbrev pub fields_rules : ℕ → ℕ → List Rule
fields_rules owner seconds =
    refuse 16 (ltb all_kinds owner) ∷ refuse 17 (eqb seconds 0) ∷ refuse 17 (ltb most_seconds seconds) ∷ []

unfoldable pub fields_number : ℕ → ℕ → ℕ
fields_number owner seconds = first (fields_rules owner seconds)

-- "12 length not 512; 13 check; 14 first bytes; 15 version; 16 owner above 7; 17 seconds 0 or above 90,000; 18 a spare byte not 0"
abbrev pub header_rules : List ℕ → List Rule
header_rules s =
    refuse 12 (differ (length s) block_size)
    ∷ refuse 13 (differ (u32_at s check_at) (check_of s))
    ∷ refuse 14 (differ (u32_at s name_at) (u32_at name 0))
    ∷ refuse 15 (differ (u16_at s version_at) version)
    ∷ refuse 16 (ltb all_kinds (owner_of s))
    ∷ refuse 17 (eqb (seconds_of s) 0)
    ∷ refuse 17 (ltb most_seconds (seconds_of s))
    ∷ refuse 18 (differ (get_or s spare_at 0) 0)
    ∷ refuse 18 (not (all_zero (part s header_end check_at)))
    ∷ []

unfoldable pub header_number : List ℕ → ℕ
header_number s = first (header_rules s)

-- what the reader says of the bytes s: owner and seconds in the book where no rule applies
abbrev pub header_of : List ℕ → Said
header_of s = answered (header_number s) (owner_of s ∷ seconds_of s ∷ [])

-- what each case of its answer says
abbrev pub header_says : Result Header Refusal → Said
header_says (Ok h) = values (h.owner ∷ h.seconds ∷ [])
header_says (Err e) = refused (number_of e)
