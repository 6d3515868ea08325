-- 11, 24 and 25 turn down the seconds that 01's 11 turned down. Assumes nothing.
use Rattle.std.proofs.Common.{◌≡◌, refl, ◌⊎◌, inl, inr, Bool, true, false, cond, List, [], ◌∷◌, ◌++◌, ℕ, arith, length}
use Rattle.numbers.specs.Rules.{Rule, first}
use Rattle.record.specs.declared.KindBits.{KindBits}
use Rattle.record.specs.Record.{record_of, bits_of}
use Rattle.mfrr.specs.Refusals.{rules_at}
use Rattle.plant.specs.declared.Setpoints.{Setpoints}
use Rattle.plant.specs.Seconds.{History, Closed, last_status_of, mfrr_second, mfrr_past, setpoints_at}
use Rattle.plant.specs.Refusals.{record_rules, off_moves, off_rules, base_off_rules, length_rule, number_at, base_number_at}
use Rattle.plant.specs.Claims.{SameTurnedDown}

-- a number that both give
equal : (n : ℕ) → SameTurnedDown n n
equal n = record { same_seconds = (λ e. e, λ e. e); other_numbers = λ h. refl; which_kind = λ e. inl e }

-- one of the three where the base gives 11
split : (n : ℕ) → (n ≡ 0 → ⊥) → (n ≡ 11) ⊎ ((n ≡ 24) ⊎ (n ≡ 25)) → SameTurnedDown n 11
split n above three =
    record {
      same_seconds = (λ e. absurd (above e), λ e. absurd (omega arith));
      other_numbers = λ h. absurd (h refl);
      which_kind = λ e. three;
    }

of_kinds_off : (on : KindBits) (s : Setpoints) → SameTurnedDown (first (off_rules on s)) (first (base_off_rules on s))
of_kinds_off on s = go (off_moves on.fcr s.fcr) (off_moves on.afrr s.afrr) (off_moves on.mfrr s.mfrr) refl refl refl
  where
    go :
        (f a m : Bool) → off_moves on.fcr s.fcr ≡ f → off_moves on.afrr s.afrr ≡ a → off_moves on.mfrr s.mfrr ≡ m
        → SameTurnedDown (first (off_rules on s)) (first (base_off_rules on s))
    go true a m p q r = rw p (equal 11)
    go false true m p q r = rw (p, q) (split _ (λ e. omega arith) (search (inl, inr) depth 6))
    go false false true p q r = rw (p, q, r) (split _ (λ e. omega arith) (search (inl, inr) depth 6))
    go false false false p q r = rw (p, q, r) (equal 0)

-- the same rules before both
after : (rs us vs : List Rule) → SameTurnedDown (first us) (first vs) → SameTurnedDown (first (rs ++ us)) (first (rs ++ vs))
after [] us vs h = h
after (r ∷ rs) us vs h = go r.applies (after rs us vs h)
  where
    go : (t : Bool) → SameTurnedDown (first (rs ++ us)) (first (rs ++ vs)) → SameTurnedDown (cond t r.number (first (rs ++ us))) (cond t r.number (first (rs ++ vs)))
    go true q = equal r.number
    go false q = q

pub same_turned_down : (c : Closed) (h : History) (s : List ℕ) → SameTurnedDown (number_at c h s) (base_number_at c h s)
unfolding number_at base_number_at
same_turned_down c h s =
    let x = record_of s in
    let off = off_rules (bits_of x.status) (setpoints_at c h x) in
    let base = base_off_rules (bits_of x.status) (setpoints_at c h x) in
    after (length_rule s ∷ record_rules (length h) (last_status_of c h) x) (rules_at (length h) (mfrr_past c h) (mfrr_second x) ++ off) (rules_at (length h) (mfrr_past c h) (mfrr_second x) ++ base)
    (after (rules_at (length h) (mfrr_past c h) (mfrr_second x)) off base (of_kinds_off (bits_of x.status) (setpoints_at c h x)))
