-- What is sent turn after turn is what is printed of all that is read. Assumes nothing.
use Rattle.std.proofs.Common.{◌≡◌, refl, sym, ap, ◌∙◌, subst, List, [], ◌++◌, append_assoc, ℕ, ◌+◌, ◌-◌, ◌^◌, ◌≤◌, ◌<◌, arith, length, length-append, Option, Some, None, IfSome}
use Rattle.std.specs.Io.KnownBytes.{Appends, Consumes}
use Rattle.std.proofs.KnownBytes.{Consumes-nil, Appends-nil, Appends-trans, Consumes-trans}
use Rattle.sending.specs.Session.{Went, Ended, AllSent}

-- after so many turns: what was read and what was sent
pub record SoFar (rest rest_after : List ℕ → List ℕ) (input left before after : Option (List ℕ)) (turns : ℕ) : Type 0 where
  pub read : List ℕ
  pub text : List ℕ
  pub many : turns ≤ length read
  pub consumed : Consumes input left read
  pub sent : Appends before after text
  pub told : (next : List ℕ) → text ++ rest_after next ≡ rest (read ++ next)

pub begin : (rest : List ℕ → List ℕ) (input before : Option (List ℕ)) → SoFar rest rest input input before before 0
begin rest input before =
    record { read = []; text = []; many = omega arith; consumed = Consumes-nil input; sent = Appends-nil before; told = λ next. refl }

module _ {rest now : List ℕ → List ℕ} {input left before after : Option (List ℕ)} {turns : ℕ} (f : SoFar rest now input left before after turns) where
  pub onward : {then : List ℕ → List ℕ} {left' after' : Option (List ℕ)} → Went now then left left' after after' → SoFar rest then input left' before after' (turns + 1)
  onward w =
      record {
        read = f.read ++ w.bytes;
        text = f.text ++ w.text;
        many = omega (arith, f.many, w.some, length-append f.read w.bytes);
        consumed = Consumes-trans _ _ _ _ _ f.consumed w.read;
        sent = Appends-trans _ _ _ _ _ f.sent w.sent;
        told =
            λ next.
            append_assoc f.text w.text _
            ∙ ap (λ (l : List ℕ). f.text ++ l) (w.told next)
            ∙ f.told (w.bytes ++ next)
            ∙ ap rest (sym (append_assoc f.read w.bytes next));
      }

  pub whole : {then : List ℕ → List ℕ} {after' : Option (List ℕ)} (last : Option (List ℕ)) → Ended now then left after after' → Appends after' last (then []) → AllSent rest input before last
  whole {then} {after'} last e r = all input left f.consumed e.enough
    where
      all : (a b : Option (List ℕ)) → Consumes a b f.read → IfSome b (λ s. then [] ≡ now s) → IfSome a (λ s. length s < 2 ^ 64 - 1 → Appends before last (rest s))
      all None b p q = tt
      all (Some s) None p q = absurd p
      all (Some s) (Some t) p q =
          λ few.
          subst (Appends before last) (ap (λ (l : List ℕ). f.text ++ l) q ∙ f.told t ∙ ap rest (sym p))
          (Appends-trans _ _ _ _ _ f.sent (Appends-trans _ _ _ _ _ e.unsent r))

  -- no input has so many bytes
  pub beyond : 2 ^ 64 - 1 ≤ turns → AllSent rest input before after
  beyond i = none_such input left f.consumed
    where
      none_such : (a b : Option (List ℕ)) → Consumes a b f.read → IfSome a (λ s. length s < 2 ^ 64 - 1 → Appends before after (rest s))
      none_such None b p = tt
      none_such (Some s) None p = absurd p
      none_such (Some s) (Some t) p = λ few. absurd (omega (arith, few, i, f.many, ap length p, length-append f.read t))
