-- What a writer's number says of its arguments, and what it then leaves. Assumes nothing.
use Rattle.std.proofs.Common.{◌≡◌, refl, ap, List, [], ℕ, zero, suc, ◌/◌, ◌%◌, ◌≤◌, ◌<◌, arith, ltb-false, ne_eqb, le-ltb}
use Rattle.std.proofs.lemmas.Bool.{eqb-false}
use Rattle.record.specs.Record.{most_seconds, all_kinds}
use Rattle.numbers.proofs.Rules.{none, no_number}
use Rattle.block.specs.Places.{block_size, per_block, second_size}
use Rattle.block.specs.Said.{values, refused}
use Rattle.block.specs.Writing.{Outcome, outcome_by, wrote, write_header_rules, write_header_number, write_block_rules, write_block_number}
use Rattle.block.proofs.Answers.{same, agree}

-- a block that was written
pub written : (n : ℕ) (b s e : List ℕ) → n ≡ 0 → e ≡ s → wrote e ≡ outcome_by n b s
written n b s e h f = rw (h, f)

pub was_written : (n : ℕ) (b x s : List ℕ) → outcome_by n b x ≡ wrote s → (n ≡ 0) × (x ≡ s)
was_written zero b x s e = (refl, ap (λ (o : Outcome). o.buffer) e)
was_written (suc n) b x s e =
    let f : refused (suc n) ≡ values [] = ap (λ (o : Outcome). o.said) e in
    (cc, cc)

pub record FitHeader (len owner seconds : ℕ) : Type 0 where
  pub len_is : len ≡ block_size
  pub owners : owner ≤ all_kinds
  pub some : 0 < seconds
  pub most : seconds ≤ most_seconds

pub fit_header : (len owner seconds : ℕ) → write_header_number len owner seconds ≡ 0 → FitHeader len owner seconds
unfolding write_header_number
fit_header len owner seconds e =
    let r = none (write_header_rules len owner seconds) refl e in
    record {
      len_is = same _ _ r.0;
      owners = ltb-false _ _ r.1.0;
      some = omega (arith, eqb-false _ _ r.1.1.0);
      most = ltb-false _ _ r.1.1.1.0;
    }

pub header_fits : (len owner seconds : ℕ) → FitHeader len owner seconds → write_header_number len owner seconds ≡ 0
unfolding write_header_number
header_fits len owner seconds f =
    let some : seconds ≡ 0 → ⊥ = λ e. omega (arith, f.some) in
    no_number (write_header_rules len owner seconds) (agree f.len_is, (le-ltb _ _ f.owners, (ne_eqb _ _ some, (le-ltb _ _ f.most, tt))))

pub record FitBlock (len n bytes : ℕ) : Type 0 where
  pub len_is : len ≡ block_size
  pub number : 0 < n
  pub whole : bytes % second_size ≡ 0
  pub some : 0 < bytes / second_size
  pub few : bytes / second_size ≤ per_block

pub fit_block : (len n bytes : ℕ) → write_block_number len n bytes ≡ 0 → FitBlock len n bytes
unfolding write_block_number
fit_block len n bytes e =
    let r = none (write_block_rules len n bytes) refl e in
    record {
      len_is = same _ _ r.0;
      number = omega (arith, eqb-false _ _ r.1.0);
      whole = same _ _ r.1.1.0;
      some = omega (arith, eqb-false _ _ r.1.1.1.0);
      few = ltb-false _ _ r.1.1.1.1.0;
    }

pub block_fits : (len n bytes : ℕ) → FitBlock len n bytes → write_block_number len n bytes ≡ 0
unfolding write_block_number
block_fits len n bytes f =
    let one : n ≡ 0 → ⊥ = λ e. omega (arith, f.number) in
    let some : bytes / second_size ≡ 0 → ⊥ = λ e. omega (arith, f.some) in
    no_number (write_block_rules len n bytes) (agree f.len_is, (ne_eqb _ _ one, (agree f.whole, (ne_eqb _ _ some, (le-ltb _ _ f.few, tt)))))
