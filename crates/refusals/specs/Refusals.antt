-- The number of each refusal, and what an answer says in the documents' terms: what was asked for, or a refusal's number.
use Rattle.std.specs.Prelude.{ℕ, zero, suc, Result, Ok, Err}
use Rattle.refusals.specs.declared.Refusal.{Refusal}
use Rattle.refusals.specs.declared.Refusal.TheVariants as refusal

-- 01, "When a book is turned down", and the requests of 02 where one is named
abbrev pub number_of : Refusal → ℕ
-- "already 90,000 seconds"
number_of refusal.BookFull = 1
-- "a held power outside 0 to 1,000,000"
number_of refusal.HeldPower = 2
-- "deviation outside ±5,000"
number_of refusal.Deviation = 3
-- "measured or working point outside ±4,000,000"
number_of refusal.Power = 4
-- "aFRR setpoint outside ±1,000,000"
number_of refusal.AfrrSetpoint = 5
-- "above 15" (02, W3)
number_of refusal.Status = 6
-- "call above 1, or 0 with target or end not 0"
number_of refusal.Call = 7
-- "target outside ±1,000,000"
number_of refusal.CallTarget = 8
-- "end not a multiple of 900 or outside t + 900 to t + 3,600"
number_of refusal.CallEnd = 9
-- "a ninth leftover"
number_of refusal.NinthLeftover = 10
-- "a kind off whose setpoint isn't 0": "FCR only" (02, W2)
number_of refusal.FcrOff = 11
-- "not of 36 bytes", "not of 108", "length not 512"
number_of refusal.Length = 12
-- "check"
number_of refusal.Check = 13
-- "first bytes"
number_of refusal.FirstBytes = 14
-- "version"
number_of refusal.Version = 15
-- "owner above 7"
number_of refusal.Owner = 16
-- "seconds 0 or above 90,000"
number_of refusal.BookSeconds = 17
-- "a spare byte not 0"
number_of refusal.SpareByte = 18
-- "number not n, or n is 0, or none due"
number_of refusal.BlockNumber = 19
-- "seconds in it not those due"
number_of refusal.BlockSeconds = 20
-- "bytes after the last"
number_of refusal.BytesLeft = 21
-- "buffer under 200 bytes"
number_of refusal.LineRoom = 22
-- "when its seconds' bytes aren't 1 to 4 times 108" (02, W1)
number_of refusal.SecondsBytes = 23
-- "when aFRR is off and its setpoint isn't 0" (02, W2)
number_of refusal.AfrrOff = 24
-- "when mFRR is off and its setpoint isn't 0" (02, W2)
number_of refusal.MfrrOff = 25
-- "when a kind's status changes against this" (02, W3)
number_of refusal.StatusChange = 26
-- "when there are no meters or more than four" (02, W6)
number_of refusal.MeterCount = 27
-- "when none is usable" (02, W6)
number_of refusal.NoUsableMeter = 28
-- "when the closing book's length isn't a multiple of 900" (02, W7)
number_of refusal.BookLength = 29
-- "when a figure is outside its range" (02, W9)
number_of refusal.SheetFigure = 30
-- "when z is outside 0 to 1,000,000, m outside ±4,000,000, class or flag above 1, or z is 0 and another of the fields isn't" (02, W10)
number_of refusal.LoadFields = 31
-- "when z is above 0, there is no call and no return ramp, and the working point is outside m - 0.2 × z to m" (02, W10)
number_of refusal.LoadPoint = 32
-- "when a call flag comes in the unit's first second from a blank state, a called setpoint is outside 0 to 1,000,000, or a setpoint not 0 stands without a call" (02, W10)
number_of refusal.LoadSignal = 33

-- what was asked for, or the number of the refusal and nothing else
pub data Answer (A : Type 0) : Type 0 where
  Given : A → Answer A
  Refused : ℕ → Answer A

-- what is given where no rule applies, by the number of the first that does
abbrev pub answer_by : {A : Type 0} → ℕ → A → Answer A
answer_by zero x = Given x
answer_by (suc n) x = Refused (suc n)

-- what a result says
abbrev pub told : {A : Type 0} → Result A Refusal → Answer A
told (Ok x) = Given x
told (Err e) = Refused (number_of e)

-- its number, 0 where no rule applies
abbrev pub number_in : {A : Type 0} → Result A Refusal → ℕ
number_in (Ok x) = 0
number_in (Err e) = number_of e

-- of an answer likewise
abbrev pub answer_number : {A : Type 0} → Answer A → ℕ
answer_number (Given x) = 0
answer_number (Refused n) = n
