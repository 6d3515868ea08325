-- A kind by its flag and figures. Assumes nothing.
use Rattle.std.proofs.Common.{ℕ, ◌≡◌, refl, sym, ◌↔◌, Bool, true, false, true≢false, cond, is_some, IfSome, IfNone, pos}
use Rattle.power.specs.declared.kilowatts.Kw.{Kw}
use Rattle.power.specs.declared.limits.Band.{Band}
use Rattle.power.specs.Inward.{Published}
use Rattle.row.specs.Row.{off_row}
use Rattle.sharing.specs.declared.shares.Part.{Part}
use Rattle.sharing.specs.Shares.{weighed_if, tolerance_of}
use Rattle.sharing.specs.Rows.{kind_if, setpoint_on, toward, weighed_of, on_row, kind_row}
use Rattle.sharing.specs.Claims.{ByFlag}

weighed_flag : (on : Bool) (t : ℕ) → is_some (weighed_if on t) ≡ on
weighed_flag true t = refl
weighed_flag false t = refl

counted : (on : Bool) (t : ℕ) → tolerance_of (weighed_if on t) ≡ cond on t 0
counted true t = refl
counted false t = refl

kind_flag : (on : Bool) (s : Kw) (b : Band) → is_some (kind_if on s b) ≡ on
unfolding kind_if
kind_flag true s b = refl
kind_flag false s b = refl

taken_off : (on : Bool) (s : Kw) (b : Band) → setpoint_on (kind_if on s b) ≡ cond on s.0 (pos 0)
unfolding kind_if
taken_off true s b = refl
taken_off false s b = refl

weighed_as : (up on : Bool) (s : Kw) (b : Band) → weighed_of up (kind_if on s b) ≡ weighed_if on (toward up (record { setpoint = s; band = b }))
unfolding kind_if
weighed_as up true s b = refl
weighed_as up false s b = refl

row_is : (up on : Bool) (s : Kw) (b : Band) (p : Part) → kind_row up (kind_if on s b) p ≡ cond on (on_row up (record { setpoint = s; band = b }) p) off_row
unfolding kind_if
row_is up true s b p = refl
row_is up false s b p = refl

if_off : (P : Type 0) (on : Bool) (t : ℕ) → IfNone (weighed_if on t) P ↔ (on ≡ false → P)
if_off P true t = (λ q e. absurd (true≢false e), λ q. tt)
if_off P false t = (λ q e. q, λ q. q refl)

published : (on : Bool) (s : Kw) (b : Band) → IfSome (kind_if on s b) (λ g. Published g.band g.setpoint.0) ↔ (on ≡ true → Published b s.0)
unfolding kind_if
published true s b = (λ q e. q, λ q. q refl)
published false s b = (λ q e. absurd (true≢false (sym e)), λ q. tt)

pub by_flag : ByFlag
by_flag =
    record {
      weighed_flag = weighed_flag;
      counted = counted;
      kind_flag = kind_flag;
      taken_off = taken_off;
      weighed_as = weighed_as;
      row_is = row_is;
      off_share = λ on t x. if_off _ on t;
      off_part = λ on t p. if_off _ on t;
      published = published;
    }
