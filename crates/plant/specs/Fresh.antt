-- A book with no closed one before it is 01's (02, W7: "Opening blank stays possible"): what looks at the past sees the book's own seconds as they
-- are. The other definitions of the plant see no past but through these. The proof is `fresh_book` of proofs/Fresh.antt.
use Rattle.std.specs.Prelude.{◌≡◌, [], ◌∷◌, map, length}
use Rattle.power.specs.Units.{kw}
use Rattle.sheet.specs.declared.Sheet.{Sheet}
use Rattle.record.specs.declared.Record.{Record}
use Rattle.fcr.specs.Band as fcr
use Rattle.fcr.specs.State as fcr-state
use Rattle.afrr.specs.Band as afrr
use Rattle.afrr.specs.State as afrr-state
use Rattle.mfrr.specs.Signal as mfrr
use Rattle.mfrr.specs.Band as mfrr_band_is
use Rattle.mfrr.specs.Refusals as mfrr-refusals
use Rattle.mfrr.specs.State as mfrr-state
use Rattle.plant.specs.declared.Setpoints.{Setpoints}
use Rattle.plant.specs.Seconds.{History, timeline, status_of, fcr_setpoint, afrr_second, mfrr_second, setpoints_with, setpoints_at}
use Rattle.plant.specs.Refusals.{rules_with, record_rules_at}
use Rattle.plant.specs.Rows.{kinds_with, kinds_at}
use Rattle.plant.specs.State.{state_of}

-- the setpoints of second x after the seconds h
abbrev pub fresh_setpoints : History → Record → Setpoints
fresh_setpoints h x = setpoints_with x (kw (mfrr.setpoint_at (map mfrr_second h) (mfrr_second x)))

pub record FreshBook (sh : Sheet) (h : History) : Type 0 where
  pub past : timeline (h ∷ []) ≡ h
  pub setpoints : (x : Record) → setpoints_at [] h x ≡ fresh_setpoints h x
  pub rules :
      (x : Record)
      → record_rules_at [] h x ≡ rules_with (length h) (status_of h) x (mfrr-refusals.rules_at (length h) (map mfrr_second h) (mfrr_second x)) (fresh_setpoints h x)
  pub kinds :
      (x : Record)
      → kinds_at sh [] h x
      ≡ kinds_with x (fresh_setpoints h x)
      (fcr.band_at sh (map fcr_setpoint h) (fcr_setpoint x) x.fcr_held)
      (afrr.band_at sh (map afrr_second h) (afrr_second x))
      (mfrr_band_is.band_at sh (map mfrr_second h) (mfrr_second x))
  pub state :
      state_of sh [] h
      ≡ record {
        seconds = length h;
        fcr = fcr-state.state_of (map fcr_setpoint h);
        afrr = afrr-state.state_of sh (map afrr_second h);
        mfrr = mfrr-state.state_of sh (map mfrr_second h);
        last_status = status_of h;
      }
