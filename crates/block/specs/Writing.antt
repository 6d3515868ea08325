-- What the writers answer and leave in their buffer (02, W1).
use Rattle.std.specs.Prelude.{ℕ, zero, suc, ◌/◌, ◌%◌, List, [], ◌∷◌, length, eqb, ltb, Result, Ok, Err}
use Rattle.refusals.specs.declared.Refusal.{Refusal}
use Rattle.refusals.specs.Refusals.{number_of}
use Rattle.record.specs.Record.{most_seconds, all_kinds}
use Rattle.numbers.specs.Rules.{Rule, refuse, first, differ}
use Rattle.block.specs.Places.{block_size, per_block, second_size}
use Rattle.block.specs.Said.{Said, values, refused, answered}
use Rattle.block.specs.Layout.{header_bytes, block_bytes}

-- what each case of a writer's answer says
abbrev pub written_says : Result (Unit {0}) Refusal → Said
written_says (Ok x) = values []
written_says (Err e) = refused (number_of e)

-- "a refusal leaves the buffer as found": b; else it is s
abbrev pub buffer_by : ℕ → List ℕ → List ℕ → List ℕ
buffer_by zero b s = s
buffer_by (suc n) b s = b

-- the answer, and the buffer after it
pub record Outcome : Type 0 where
  pub said : Said
  pub buffer : List ℕ

-- where the writer's number is n, and s is the block to be written into the buffer b
abbrev pub outcome_by : ℕ → List ℕ → List ℕ → Outcome
outcome_by n b s = record { said = answered n []; buffer = buffer_by n b s }

-- the block s was written
abbrev pub wrote : List ℕ → Outcome
wrote s = record { said = values []; buffer = s }

-- ---- the header

-- "12, 16 and 17 hold for the writer's buffer, owner and count, in that order"
abbrev pub write_header_rules : ℕ → ℕ → ℕ → List Rule
write_header_rules len owner seconds =
    refuse 12 (differ len block_size)
    ∷ refuse 16 (ltb all_kinds owner)
    ∷ refuse 17 (eqb seconds 0)
    ∷ refuse 17 (ltb most_seconds seconds)
    ∷ []

unfoldable pub write_header_number : ℕ → ℕ → ℕ → ℕ
write_header_number len owner seconds = first (write_header_rules len owner seconds)

-- into the buffer b
abbrev pub header_written : List ℕ → ℕ → ℕ → Outcome
header_written b owner seconds = outcome_by (write_header_number (length b) owner seconds) b (header_bytes owner seconds)

-- ---- a later block

-- "and 19 for block number 0, after 12. 23 when its seconds' bytes aren't 1 to 4 times 108, after 19"
abbrev pub write_block_rules : ℕ → ℕ → ℕ → List Rule
write_block_rules len n bytes =
    refuse 12 (differ len block_size)
    ∷ refuse 19 (eqb n 0)
    ∷ refuse 23 (differ (bytes % second_size) 0)
    ∷ refuse 23 (eqb (bytes / second_size) 0)
    ∷ refuse 23 (ltb per_block (bytes / second_size))
    ∷ []

unfoldable pub write_block_number : ℕ → ℕ → ℕ → ℕ
write_block_number len n bytes = first (write_block_rules len n bytes)

-- block n of the bytes of its seconds, into the buffer b
abbrev pub block_written : List ℕ → ℕ → List ℕ → Outcome
block_written b n body = outcome_by (write_block_number (length b) n (length body)) b (block_bytes n body)
