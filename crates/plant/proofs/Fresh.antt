-- Without closed books the timeline is the book's own seconds. Assumes nothing.
use Rattle.std.proofs.Common.{◌≡◌, refl, ap, Bool, true, false, cond, [], ◌∷◌, map, ℕ, ◌+◌, arith, eqb, length}
use Rattle.power.specs.Units.{kw}
use Rattle.sheet.specs.declared.Sheet.{Sheet}
use Rattle.record.specs.declared.Record.{Record}
use Rattle.fcr.specs.Band as fcr
use Rattle.afrr.specs.Band as afrr
use Rattle.mfrr.specs.Signal as mfrr
use Rattle.mfrr.specs.Band as mfrr_band_is
use Rattle.mfrr.specs.Refusals.{rules_at}
use Rattle.plant.specs.Seconds.{History, with_end, moved_on, timeline, status_of, fcr_setpoint, afrr_second, mfrr_second, setpoints_with, setpoints_at}
use Rattle.plant.specs.Refusals.{rules_with}
use Rattle.plant.specs.Rows.{kinds_with, kinds_at}
use Rattle.plant.specs.State.{state_of}
use Rattle.plant.specs.Fresh.{fresh_setpoints, FreshBook}

pub stays_put : (x : Record) → moved_on 0 x ≡ x
stays_put x = ap (λ (D : ℕ). with_end D x) (go (eqb x.call 1))
  where
    go : (t : Bool) → cond t (x.delivery_end + 0) x.delivery_end ≡ x.delivery_end
    go true = omega arith
    go false = refl

pub own_past : (h : History) → timeline (h ∷ []) ≡ h
own_past [] = refl
own_past (x ∷ h) = λ i. stays_put x i ∷ own_past h i

module _ (sh : Sheet) (h : History) where
  setpoints : (x : Record) → setpoints_at [] h x ≡ fresh_setpoints h x
  setpoints x = λ i. setpoints_with x (kw (mfrr.setpoint_at (map mfrr_second (own_past h i)) (mfrr_second (stays_put x i))))

  kinds :
      (x : Record)
      → kinds_at sh [] h x
      ≡ kinds_with x (fresh_setpoints h x)
      (fcr.band_at sh (map fcr_setpoint h) (fcr_setpoint x) x.fcr_held)
      (afrr.band_at sh (map afrr_second h) (afrr_second x))
      (mfrr_band_is.band_at sh (map mfrr_second h) (mfrr_second x))
  unfolding kinds_at
  kinds x =
      λ i.
      kinds_with x (setpoints x i)
      (fcr.band_at sh (map fcr_setpoint (own_past h i)) (fcr_setpoint x) x.fcr_held)
      (afrr.band_at sh (map afrr_second (own_past h i)) (afrr_second x))
      (mfrr_band_is.band_at sh (map mfrr_second (own_past h i)) (mfrr_second (stays_put x i)))

  pub fresh_book : FreshBook sh h
  unfolding state_of
  fresh_book =
      record {
        past = own_past h;
        setpoints = setpoints;
        rules = λ x i. rules_with (length h) (status_of (own_past h i)) x (rules_at (length h) (map mfrr_second (own_past h i)) (mfrr_second x)) (setpoints x i);
        kinds = kinds;
        state = rw (own_past h);
      }
