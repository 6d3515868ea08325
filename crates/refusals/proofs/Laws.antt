-- A refusal's number is never 0, so that 0 stands for none, and it names the refusal.
use Rattle.std.proofs.Common.{◌≡◌, ℕ, suc, arith, refl, ◌∙◌, Result}
use Rattle.std.specs.Result.{IsErrAnd}
use Rattle.std.proofs.lemmas.Result.{err_from_is_err_and}
use Rattle.refusals.specs.declared.Refusal.{Refusal}
use Rattle.refusals.specs.declared.Refusal.TheVariants as refusal
use Rattle.refusals.specs.Refusals.{number_of, Answer, Refused, answer_by, told}

-- a number of a refusal, less one
pub data Positive : ℕ → Type 0 where
  positive : (n : ℕ) → Positive (suc n)

pub number_positive : (e : Refusal) → Positive (number_of e)
number_positive refusal.BookFull = positive 0
number_positive refusal.HeldPower = positive 1
number_positive refusal.Deviation = positive 2
number_positive refusal.Power = positive 3
number_positive refusal.AfrrSetpoint = positive 4
number_positive refusal.Status = positive 5
number_positive refusal.Call = positive 6
number_positive refusal.CallTarget = positive 7
number_positive refusal.CallEnd = positive 8
number_positive refusal.NinthLeftover = positive 9
number_positive refusal.FcrOff = positive 10
number_positive refusal.Length = positive 11
number_positive refusal.Check = positive 12
number_positive refusal.FirstBytes = positive 13
number_positive refusal.Version = positive 14
number_positive refusal.Owner = positive 15
number_positive refusal.BookSeconds = positive 16
number_positive refusal.SpareByte = positive 17
number_positive refusal.BlockNumber = positive 18
number_positive refusal.BlockSeconds = positive 19
number_positive refusal.BytesLeft = positive 20
number_positive refusal.LineRoom = positive 21
number_positive refusal.SecondsBytes = positive 22
number_positive refusal.AfrrOff = positive 23
number_positive refusal.MfrrOff = positive 24
number_positive refusal.StatusChange = positive 25
number_positive refusal.MeterCount = positive 26
number_positive refusal.NoUsableMeter = positive 27
number_positive refusal.BookLength = positive 28
number_positive refusal.SheetFigure = positive 29
number_positive refusal.LoadFields = positive 30
number_positive refusal.LoadPoint = positive 31
number_positive refusal.LoadSignal = positive 32

pub never_zero : {n : ℕ} → Positive n → n ≡ 0 → ⊥
never_zero (positive n) h = omega (arith, h)

pub not_zero : (e : Refusal) → number_of e ≡ 0 → ⊥
not_zero e = never_zero (number_positive e)

pub refused_by : {A : Type 0} {n : ℕ} (x : A) → Positive n → answer_by n x ≡ Refused n
refused_by x (positive n) = refl

-- what a refusal says is no 0
pub refused_not_zero : {A : Type 0} (e : Refusal) {n : ℕ} → ◌≡◌ {A = Answer A} (Refused (number_of e)) (Refused n) → n ≡ 0 → ⊥
refused_not_zero e {n} k z = let m : number_of e ≡ n = cc in not_zero e (m ∙ z)

-- what is said where a `?` returns
pub told_left : {A : Type 0} (r : Result A Refusal) (e : Refusal) → IsErrAnd r (λ y. y ≡ e) → told r ≡ Refused (number_of e)
told_left r e h = let p = err_from_is_err_and r h in rw (p.1, p.2)
