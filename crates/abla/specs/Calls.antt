-- AbLa's calls over the past (02, W10): "A call is a run of set flags with its first second's class."
use Rattle.std.specs.Prelude.{ℕ, ◌+◌, ◌≡◌, Bool, true, false, cond, ◌&&◌, List, [], ◌∷◌, ◌++◌, leb, ltb, eqb, pos, length}
use Rattle.std.specs.Int.Signed.{lt_z}
use Rattle.power.specs.declared.kilowatts.Kw.{Kw}
use Rattle.power.specs.Units.{kw}
use Rattle.abla.specs.declared.load.LoadSecond.{LoadSecond}

-- the accepted seconds, newest first
abbrev pub History : Type 0
History = List LoadSecond

-- "A z of 0 means off": on is z above 0, as a z below 0 is refused
unfoldable pub is_on : LoadSecond → Bool
is_on x = lt_z (pos 0) x.awarded.0

-- "call flag (1; 1 = called)"
unfoldable pub flagged : LoadSecond → Bool
flagged x = eqb x.flag 1

-- "class (1; 0 immediate, 1 quick)"
unfoldable pub is_quick : ℕ → Bool
is_quick class = eqb class 1

-- the newest second of a past has a set flag
unfoldable pub flagged_last : History → Bool
flagged_last [] = false
flagged_last (x ∷ h) = flagged x

-- a call: how many flags are set in a row so far, its first second, and the seconds before that one
pub record Call : Type 0 where
  pub seconds : ℕ
  pub first : LoadSecond
  pub before : History

-- a second in which the load is off: 0 in every field
abbrev pub off : Kw → LoadSecond
off w = record { minimum = kw (pos 0); awarded = kw (pos 0); class = 0; flag = 0; setpoint = kw (pos 0); working = w }

-- none so far
unfoldable pub no_call : Call
no_call = record { seconds = 0; first = off (kw (pos 0)); before = [] }

unfoldable pub begun : LoadSecond → History → Call
begun x h = record { seconds = 1; first = x; before = h }

unfoldable pub longer : Call → Call
longer c = record { seconds = c.seconds + 1; first = c.first; before = c.before }

-- the latest call of a past: a set flag after another one goes on with its call, any other set flag begins one
unfoldable pub latest : History → Call
latest [] = no_call
latest (x ∷ h) = cond (flagged x) (cond (flagged_last h) (longer (latest h)) (begun x h)) (latest h)

-- the seconds that followed the latest set flag
unfoldable pub since : History → ℕ
since [] = 0
since (x ∷ h) = cond (flagged x) 0 (since h + 1)

-- every second of a past has a set flag (b is true), or none has
unfoldable pub Each : Bool → History → Type 0
Each b [] = Unit
Each b (x ∷ h) = (flagged x ≡ b) × Each b h

-- a call in a past, k seconds ago: k seconds without a flag, then its set flags down to its first second, then what was before, which does
-- not end with a set flag
pub record Ran (h : History) (c : Call) (k : ℕ) : Type 0 where
  pub after : History
  pub run : History
  pub whole : h ≡ after ++ (run ++ (c.first ∷ c.before))
  pub after_length : length after ≡ k
  pub after_unset : Each false after
  pub run_length : length run + 1 ≡ c.seconds
  pub run_set : Each true run
  pub first_set : flagged c.first ≡ true
  pub starts : flagged_last c.before ≡ false

-- the seconds of either ramp
abbrev pub quarter_hour : ℕ
quarter_hour = 900

abbrev pub hour : ℕ
hour = 3600

-- "For the first 900 seconds of a quick call": whether the newest second of a call so far is one of them
unfoldable pub in_first : Call → Bool
in_first c = is_quick c.first.class && leb c.seconds quarter_hour

-- "for 900 seconds after any call under one hour", which has fewer than 3,600 set flags: the k-th second after it
unfoldable pub in_return : Call → ℕ → Bool
in_return c k = ltb 0 c.seconds && (ltb c.seconds hour && leb k quarter_hour)
