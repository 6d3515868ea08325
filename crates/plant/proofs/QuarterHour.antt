-- 26 against the other rules, and a state that no second can leave. Assumes nothing.
use Rattle.std.proofs.Common.{◌≡◌, refl, sym, ap, ◌∙◌, subst, Bool, true, false, not, cond, ◌&&◌, ◌||◌, List, [], ◌∷◌, ◌++◌, ℕ, zero, suc, ◌+◌, ◌*◌, ◌/◌, ◌%◌, arith, eq-eqb, T, eqb, pos, length}
use Rattle.refusals.specs.Refusals.{answer_by}
use Rattle.numbers.specs.Rules.{Rule, refuse, first, differ}
use Rattle.numbers.proofs.Rules.{none, neither}
use Rattle.numbers.proofs.Test.{or_false, and_no_r}
use Rattle.numbers.specs.Bounds.{outside}
use Rattle.sheet.specs.declared.Sheet.{Sheet}
use Rattle.record.specs.declared.KindBits.{KindBits}
use Rattle.record.specs.declared.Record.{Record}
use Rattle.record.specs.Record.{record_of, bits_of, fault_in}
use Rattle.fcr.specs.Setpoint.{setpoint_of}
use Rattle.mfrr.specs.Signal.{quarter_hour, MfrrSecond, quiet, call, is_resting, last_of, through, phase_at, ramp_part, ramp_up, ramp_down, value_of, value_at, signal, phase_now, setpoint_at}
use Rattle.mfrr.specs.Leftovers.{ended, leftovers, counting}
use Rattle.mfrr.specs.Refusals.{target_out, end_out, ninth, call_rules, rules_at}
use Rattle.mfrr.specs.State.{second_of}
use Rattle.mfrr.proofs.Claims as mfrr-claims
use Rattle.plant.specs.Seconds.{History, Closed, on_timeline, last_status_of, mfrr_second, mfrr_past, setpoints_at}
use Rattle.plant.specs.Refusals.{held_out, deviation_out, power_out, setpoint_out, call_filled, call_out, kind_moved, any_moved, status_moved, range_rules, record_rules, record_number, off_moves, off_rules, off_number, record_number_at, length_rule, number_at, free_rules_at, free_number_at, AllClosed, Accepted, grown_by, grown}
use Rattle.plant.specs.Rows.{answer_at, row_at}
use Rattle.plant.specs.Run.{PlantSecond, accepted}
use Rattle.plant.specs.Values.{in_status}
use Rattle.plant.specs.Claims.{QuarterHour, call_while_off}
use Rattle.plant.proofs.Past.{call_number, number_parts}

-- ---- 26 and the other rules

-- where a rule's number isn't the one given, the list without it gives the same
without :
    (rs : List Rule) (n : ℕ) (t : Bool) (us : List Rule) → (first (rs ++ (refuse n t ∷ us)) ≡ n → ⊥)
    → first (rs ++ (refuse n t ∷ us)) ≡ first (rs ++ us)
without [] n t us h = go t h
  where
    go : (t : Bool) → (cond t n (first us) ≡ n → ⊥) → cond t n (first us) ≡ first us
    go true h = absurd (h refl)
    go false h = refl
without (r ∷ rs) n t us h = go r.applies h (without rs n t us)
  where
    go :
        (a : Bool) → (cond a r.number (first (rs ++ (refuse n t ∷ us))) ≡ n → ⊥)
        → ((first (rs ++ (refuse n t ∷ us)) ≡ n → ⊥) → first (rs ++ (refuse n t ∷ us)) ≡ first (rs ++ us))
        → cond a r.number (first (rs ++ (refuse n t ∷ us))) ≡ cond a r.number (first (rs ++ us))
    go true h k = refl
    go false h k = k h

other_numbers : (c : Closed) (h : History) (s : List ℕ) → (number_at c h s ≡ 26 → ⊥) → number_at c h s ≡ free_number_at c h s
unfolding number_at free_number_at
other_numbers c h s =
    let x = record_of s in
    without (length_rule s ∷ range_rules (length h) x) 26 (status_moved (length h) (last_status_of c h) x.status)
    (refuse 7 (call_out x) ∷ (rules_at (length h) (mfrr_past c h) (mfrr_second x) ++ off_rules (bits_of x.status) (setpoints_at c h x)))

-- a kind that stays as it was
kind_stays : (fault b : Bool) → kind_moved fault b b ≡ false
unfolding kind_moved
kind_stays fault true = refl
kind_stays fault false = refl

none_moves : (fault : Bool) (k : KindBits) → any_moved fault k k ≡ false
unfolding any_moved
none_moves fault k = rw (kind_stays fault k.fcr, kind_stays fault k.afrr, kind_stays fault k.mfrr)

pub quarter_hour_lem : (sh : Sheet) (c : Closed) (h : History) (s : List ℕ) → QuarterHour sh c h s
unfolding answer_at status_moved
quarter_hour_lem sh c h s =
    record {
      other_numbers = other_numbers c h s;
      same_answer = λ n m w. ap (λ (k : ℕ). answer_by k (row_at sh c h (record_of s) m w)) (other_numbers c h s n);
      unchanged = λ e. rw (e, none_moves) (and_no_r (differ (length h % quarter_hour) 0) false refl);
      at_multiples = λ e. rw (eq-eqb _ _ e);
    }

even_later : (p q k : ℕ) → p ≡ q + 2 * k → p % 2 ≡ q % 2
even_later p q k e = omega (arith, e)

pub fault_no_kind : (n : ℕ) → bits_of (n + 8) ≡ bits_of n
unfolding bits_of
fault_no_kind n =
    let f : (n + 8) % 2 ≡ n % 2 = omega arith in
    let a = even_later ((n + 8) / 2) (n / 2) 2 (omega arith) in
    let m = even_later ((n + 8) / 4) (n / 4) 1 (omega arith) in
    λ i. record { fcr = eqb (f i) 1; afrr = eqb (a i) 1; mfrr = eqb (m i) 1 }

-- ---- a state that no second can leave

-- a second after the call mFRR's setpoint is 1 kW, with another call or without
one_kw : (y : MfrrSecond) → setpoint_at (mfrr_past [] call_while_off) y ≡ pos 1
unfolding is_resting last_of through phase_at ramp_part ramp_up ramp_down value_of value_at signal phase_now setpoint_at second_of
one_kw quiet = refl
one_kw (call e D) = (mfrr-claims.claims).no_jump (mfrr_past [] call_while_off) e D

still_off : (n : ℕ) → status_moved 2 0 n ≡ false → (bits_of n).mfrr ≡ false
unfolding status_moved any_moved kind_moved bits_of
still_off n e =
    let k = bits_of n in
    let later = (or_false (kind_moved (fault_in n) false k.fcr) (kind_moved (fault_in n) false k.afrr || kind_moved (fault_in n) false k.mfrr) e).1 in
    go k.mfrr (or_false (kind_moved (fault_in n) false k.afrr) (kind_moved (fault_in n) false k.mfrr) later).1
  where
    go : (b : Bool) → cond b true false ≡ false → b ≡ false
    go true e = e
    go false e = refl

pub refuses_record : (x : Record) → record_number_at [] call_while_off x ≡ 0 → ⊥
unfolding record_number off_number off_moves outside
refuses_record x e =
    let n = neither _ _ (sym (number_parts [] call_while_off x) ∙ e) in
    let off = still_off x.status (none (record_rules 2 0 x) refl n.0).1.1.1.1.1.1.0 in
    let moves = (none (off_rules (bits_of x.status) (setpoints_at [] call_while_off x)) refl (neither (call_number [] call_while_off x) (off_number (bits_of x.status) (setpoints_at [] call_while_off x)) n.1).1).1.1.0 in
    absurd (subst T (go off moves) tt)
  where
    go : (bits_of x.status).mfrr ≡ false → (not (bits_of x.status).mfrr && outside (pos 0) (pos 0) (setpoint_at (mfrr_past [] call_while_off) (mfrr_second (on_timeline [] x)))) ≡ false → true ≡ false
    go off moves = sym (rw (off, one_kw (mfrr_second (on_timeline [] x))) refl) ∙ moves

-- where every second is refused the past stays
module _ (c : Closed) (h : History) (refuses : (s : List ℕ) → number_at c h s ≡ 0 → ⊥) where
  not_grown : (s : List ℕ) → grown c h s ≡ h
  unfolding grown
  not_grown s = go (number_at c h s) (refuses s)
    where
      go : (n : ℕ) → (n ≡ 0 → ⊥) → grown_by n (record_of s) h ≡ h
      go zero r = absurd (r refl)
      go (suc n) r = refl

  pub stays : (ss : List PlantSecond) → accepted c h ss ≡ h
  unfolding accepted
  stays [] = refl
  stays (s ∷ ss) = rw (not_grown s.bytes) (stays ss)

pub call_accepted : Accepted [] call_while_off
unfolding Accepted AllClosed record_number_at bits_of fault_in kind_moved any_moved status_moved setpoint_of outside held_out deviation_out power_out setpoint_out call_filled call_out off_moves is_resting last_of through phase_at ramp_part ramp_up ramp_down value_of value_at signal phase_now setpoint_at ended leftovers counting target_out end_out ninth call_rules rules_at second_of
call_accepted = (refl, (refl, tt))

pub free_again : first (free_rules_at [] call_while_off (in_status 4)) ≡ 0
unfolding bits_of fault_in kind_moved any_moved status_moved setpoint_of outside held_out deviation_out power_out setpoint_out call_filled call_out off_moves is_resting last_of through phase_at ramp_part ramp_up ramp_down value_of value_at signal phase_now setpoint_at ended leftovers counting target_out end_out ninth call_rules rules_at second_of
free_again = refl
