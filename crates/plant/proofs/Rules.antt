-- One list of rules in three groups: over the past, and at any state. Assumes nothing.
use Rattle.std.proofs.Common.{◌≡◌, refl, sym, ap, ◌∙◌, Bool, true, false, not, cond, List, ◌++◌, ℕ, zero, suc, eqb, ℤ, length}
use Rattle.refusals.specs.declared.Refusal.{Refusal}
use Rattle.refusals.specs.Refusals.{answer_number, number_of}
use Rattle.refusals.specs.Refusals as answer
use Rattle.refusals.proofs.Laws.{Positive, positive, number_positive}
use Rattle.numbers.specs.Rules.{Rule, first, or_else}
use Rattle.numbers.proofs.Rules.{numbered, first_append}
use Rattle.power.specs.declared.kilowatts.Kw.{Kw}
use Rattle.power.specs.declared.limits.Band.{Band}
use Rattle.power.specs.Units.{kw}
use Rattle.power.specs.Inward.{published_of}
use Rattle.record.specs.declared.Record.{Record}
use Rattle.record.specs.Record.{size, record_of, reading_of, bits_of}
use Rattle.sheet.specs.declared.Sheet.{Sheet}
use Rattle.sheet.specs.Sheet.{per_kw}
use Rattle.mfrr.specs.Signal as mfrr-signal
use Rattle.mfrr.specs.Refusals as mfrr-refusals
use Rattle.mfrr.specs.declared.MfrrState.{MfrrState}
use Rattle.mfrr.specs.declared.signal.Phase.{Phase}
use Rattle.mfrr.specs.State as mfrr
use Rattle.mfrr.proofs.Claims as mfrr-claims
use Rattle.plant.specs.declared.PlantState.{PlantState}
use Rattle.plant.specs.declared.Setpoints.{Setpoints}
use Rattle.plant.specs.Seconds.{mfrr_second, setpoints_with}
use Rattle.plant.specs.Refusals.{range_rules, range_number, rest_rules, record_rules, record_number, off_rules, off_number, rules_with}
use Rattle.plant.specs.State.{call_rules_in, mfrr_setpoint_in, record_rules_in, rules_in, kinds_in, accepted_in, step_by, given_in, kinds_step_in, call_step_in, record_step_in, read_in, step_in}

pub in_parts :
    (t last : ℕ) (x : Record) (calls : List Rule) (s : Setpoints) → numbered calls ≡ true
    → first (rules_with t last x calls s) ≡ or_else (record_number t last x) (or_else (first calls) (off_number (bits_of x.status) s))
unfolding record_number off_number
in_parts t last x calls s n =
    first_append (record_rules t last x) (calls ++ off_rules (bits_of x.status) s) refl
    ∙ ap (or_else (record_number t last x)) (first_append calls (off_rules (bits_of x.status) s) n)

pub record_parts : (t last : ℕ) (x : Record) → record_number t last x ≡ or_else (range_number t x) (first (rest_rules t last x))
unfolding record_number range_number
record_parts t last x = first_append (range_rules t x) (rest_rules t last x) refl

-- a number of 1 to 6 comes before the rest, which counts where there is none
pub by_range : (e : Refusal) (t last : ℕ) (x : Record) → number_of e ≡ range_number t x → number_of e ≡ record_number t last x
by_range e t last x h = rw (record_parts t last x, ← h) (go (number_positive e))
  where
    go : {n : ℕ} → Positive n → n ≡ or_else n (first (rest_rules t last x))
    go (positive n) = refl

pub by_rest : (t last : ℕ) (x : Record) → 0 ≡ range_number t x → record_number t last x ≡ first (rest_rules t last x)
by_rest t last x h = rw (record_parts t last x, ← h)

-- ---- at any state the number of a second is the first of them

call_first : (s : MfrrState) (t : ℕ) (y : mfrr-signal.MfrrSecond) → first (call_rules_in s t y) ≡ mfrr.refusal_in s t y
unfolding mfrr.refusal_in mfrr.number_of call_rules_in
call_first s t mfrr-signal.quiet = refl
call_first s t (mfrr-signal.call e D) = refl

call_numbered : (s : MfrrState) (t : ℕ) (y : mfrr-signal.MfrrSecond) → numbered (call_rules_in s t y) ≡ true
unfolding call_rules_in mfrr-refusals.call_rules
call_numbered s t mfrr-signal.quiet = refl
call_numbered s t (mfrr-signal.call e D) = refl

module _ (sh : Sheet) (st : PlantState) (x : Record) where
  abbrev taken : MfrrState
  taken = mfrr.taken_in sh st.mfrr st.seconds (mfrr_second x)

  abbrev band : Band
  band = published_of (per_kw sh) (mfrr.limits_now sh taken)

  -- mFRR's setpoint is the same under every sheet
  abbrev given : Kw
  given = kw (mfrr.value_in taken.phase)

  given_is : given ≡ mfrr_setpoint_in st x
  given_is = ap (λ (p : Phase). kw (mfrr.value_in p)) ((mfrr-claims.claims).taken_phase sh st.mfrr st.seconds (mfrr_second x))

  abbrev call_number_in : ℕ
  call_number_in = mfrr.refusal_in st.mfrr st.seconds (mfrr_second x)

  abbrev off_number_in : ℕ
  off_number_in = off_number (bits_of x.status) (setpoints_with x (mfrr_setpoint_in st x))

  parts : first (record_rules_in st x) ≡ or_else (record_number st.seconds st.last_status x) (or_else call_number_in off_number_in)
  parts =
      in_parts st.seconds st.last_status x (call_rules_in st.mfrr st.seconds (mfrr_second x)) (setpoints_with x (mfrr_setpoint_in st x)) (call_numbered st.mfrr st.seconds (mfrr_second x))
      ∙ ap (λ (n : ℕ). or_else (record_number st.seconds st.last_status x) (or_else n off_number_in)) (call_first st.mfrr st.seconds (mfrr_second x))

  module _ (m w : ℤ) where
    by_off : answer_number (kinds_step_in sh st x given band (mfrr.accepted_in sh taken).state m w).answer ≡ off_number_in
    unfolding kinds_step_in
    by_off = go (off_number (bits_of x.status) (setpoints_with x given)) ∙ ap (λ (s : Kw). off_number (bits_of x.status) (setpoints_with x s)) given_is
      where
        go : (n : ℕ) → answer_number (step_by n st (accepted_in sh st x (kinds_in sh st x given band) (mfrr.accepted_in sh taken).state m w)).answer ≡ n
        go zero = refl
        go (suc n) = refl

    by_call : answer_number (call_step_in sh st x m w).answer ≡ or_else call_number_in off_number_in
    unfolding call_step_in mfrr.step_in mfrr.step_by mfrr.accepted_in
    by_call = go call_number_in
      where
        go : (n : ℕ)
            → answer_number (given_in sh (mfrr.step_by n st.mfrr (mfrr.accepted_in sh taken)).answer (mfrr.step_by n st.mfrr (mfrr.accepted_in sh taken)).state st x m w).answer
            ≡ or_else n off_number_in
        go zero = by_off
        go (suc n) = refl

    at_record : answer_number (record_step_in sh st x m w).answer ≡ first (record_rules_in st x)
    unfolding record_step_in
    at_record = go (record_number st.seconds st.last_status x) ∙ sym parts
      where
        go : (n : ℕ) → answer_number (step_by n st (call_step_in sh st x m w)).answer ≡ or_else n (or_else call_number_in off_number_in)
        go zero = by_call
        go (suc n) = refl

pub at_any_state : (sh : Sheet) (st : PlantState) (s : List ℕ) (m w : ℤ) → answer_number (step_in sh st s m w).answer ≡ first (rules_in st s)
unfolding step_in reading_of
at_any_state sh st s m w = go (eqb (length s) size)
  where
    go : (t : Bool) → answer_number (read_in sh (cond t (answer.Given (record_of s)) (answer.Refused 12)) st m w).answer ≡ cond (not t) 12 (first (record_rules_in st (record_of s)))
    go true = at_record sh st (record_of s) m w
    go false = refl
