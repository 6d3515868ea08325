-- The ends of a step, from any state that is ready. Assumes nothing.
use Rattle.std.proofs.Common.{Result, Err, ◌≡◌, refl, sym, ap, ◌∙◌, [], ◌∷◌, ℕ}
use Rattle.numbers.specs.Bounds.{Within}
use Rattle.numbers.proofs.Fit.{fit}
use Rattle.refusals.specs.declared.Refusal.{Refusal}
use Rattle.refusals.specs.Refusals.{Given, Refused, told}
use Rattle.refusals.specs.Refusals as refusals
use Rattle.refusals.proofs.Laws.{Positive, positive, number_positive, refused_not_zero}
use Rattle.power.specs.declared.limits.BandedSetpoint.{BandedSetpoint}
use Rattle.power.specs.Units.{kw}
use Rattle.power.specs.Inward.{published_of}
use Rattle.abla.specs.declared.load.LoadSecond.{LoadSecond}
use Rattle.abla.specs.declared.AblaState.{AblaState}
use Rattle.abla.specs.Calls.{History}
use Rattle.abla.specs.Band.{per_kw, setpoint_of, limits_on, lower_before, band_at}
use Rattle.abla.specs.Refusals.{most_power, Accepted}
use Rattle.abla.specs.State.{AblaStep, stage_of, state_of, Ready, Fair, stage_in, limits_in, refusal_in, accepted_in, step_by, step_in, GivenRange, Stepped}
use Rattle.abla.proofs.Rules.{fair, off_zero}
use Rattle.abla.proofs.Past.{same_number, accepted}
use Rattle.abla.proofs.Ready.{next_ready, small}
use Rattle.abla.proofs.Inside.{contains}

pub never : (s : AblaState) (x : LoadSecond) {n : ℕ} → (accepted_in s x).answer ≡ Refused n → ⊥
unfolding accepted_in
never s x e = cc

refuses : (s : AblaState) (a : AblaStep) {n : ℕ} → Positive n → ◌≡◌ {A = AblaStep} (record { answer = Refused n; state = s }) (step_by n s a)
unfolding step_by
refuses s a (positive n) = refl

module _ (s : AblaState) (ok : Ready s) (x : LoadSecond) where
  pub taken_fair : refusal_in s x ≡ 0 → Within most_power x.working.0 → Fair x
  unfolding refusal_in
  taken_fair z w = fair x _ _ z w

  given_in_lem : refusal_in s x ≡ 0 → Fair x → GivenRange (kw (setpoint_of x)) (published_of per_kw (limits_on x (limits_in (stage_in s x) x)))
  unfolding refusal_in
  given_in_lem z f =
      record {
        setpoint_range = f.setpoint_range;
        setpoint_sign = f.setpoint_sign;
        contains = contains x _ (off_zero x _ _ z);
        small = small s ok x f z;
      }

  answer_range : refusal_in s x ≡ 0 → Fair x → {v : BandedSetpoint} → (accepted_in s x).answer ≡ Given v → GivenRange v.setpoint v.band
  unfolding accepted_in
  answer_range z f {v} e =
      let p : kw (setpoint_of x) ≡ v.setpoint = cc in
      let q : published_of per_kw (limits_on x (limits_in (stage_in s x) x)) ≡ v.band = cc in
      rw (← p, ← q) (given_in_lem z f)

  pub given : {v : BandedSetpoint} {m : AblaState} → refusal_in s x ≡ 0 → Fair x → accepted_in s x ≡ record { answer = Given v; state = m } → Stepped s x (record { answer = Given v; state = m })
  unfolding step_in step_by
  given z f e =
      record {
        is = rw z (sym e);
        number = sym z;
        given = λ k. answer_range z f (ap (λ (r : AblaStep). r.answer) e ∙ k);
        refused = λ k. absurd (cc);
        ready = rw e at (next_ready s ok x f);
      }

  pub turned_down : {a : Result BandedSetpoint Refusal} (e : Refusal) → a ≡ Err e → refusals.number_of e ≡ refusal_in s x → Stepped s x (record { answer = told a; state = s })
  unfolding step_in
  turned_down e f q =
      rw f
      (record {
        is = rw (← q) (refuses s _ (number_positive e));
        number = q;
        given = λ k. absurd (cc);
        refused = λ k z. refused_not_zero e k z;
        ready = ok;
      })

-- ---- after accepted seconds

pub fresh : Ready (state_of [])
unfolding state_of stage_of lower_before
fresh = record { stage_ready = tt; before_range = search fit }

now_fair : (h : History) (x : LoadSecond) → Accepted (x ∷ h) → Ready (state_of h) → Fair x
unfolding Accepted
now_fair h x a r = taken_fair (state_of h) r x (same_number h x ∙ a.0) a.1

pub ready : (h : History) → Accepted h → Ready (state_of h)
unfolding Accepted
ready [] a = fresh
ready (x ∷ h) a =
    let r = ready h a.2 in
    rw (accepted h x) at (next_ready (state_of h) r x (now_fair h x a r))

pub range : (h : History) (x : LoadSecond) → Accepted (x ∷ h) → GivenRange (kw (setpoint_of x)) (band_at h x)
unfolding Accepted
range h x a =
    let r = ready h a.2 in
    answer_range (state_of h) r x (same_number h x ∙ a.0) (now_fair h x a r) (ap (λ (r : AblaStep). r.answer) (accepted h x))
