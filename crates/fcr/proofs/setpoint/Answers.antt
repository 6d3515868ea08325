-- `fcr::setpoint` meets its contract: the code's tests are those of the definition. Assumes nothing.
use Rattle.std.proofs.Common.{◌≡◌, sym, ◌∙◌, subst, true, false, ◌&&◌, ℤ, pos, neg_ℤ}
use Rattle.std.specs.Int.Signed.{le_z}
use Rattle.numbers.specs.Bounds.{Within}
use Rattle.numbers.proofs.Test.{tests}
use Rattle.power.specs.Units.{most_reserve}
use Rattle.fcr.specs.Setpoint.{dead_band, full_activation, setpoint_of}
use Rattle.fcr.specs.State.{IsSetpoint}
use Rattle.fcr.proofs.Cases.{by_droop}
use Rattle.fcr.proofs.Range.{partly, setpoint_within}
use Rattle.fcr.proofs.setpoint.Goals as goal
use Rattle.fcr.proofs.setpoint.Goals.{else-f-via-then-f+else-f-le-DEAD_BAND, else-f-via-else-f}

-- what is to be shown of a result
met : (held deviation : ℤ) → Within most_reserve held → {r : ℤ} → r ≡ setpoint_of held deviation → IsSetpoint held deviation r
met held deviation h e = record { is = e; small = subst (Within most_reserve) (sym e) (setpoint_within _ deviation h) }

-- outside the dead band
abbrev Outside : ℤ → Type 0
Outside f = (le_z (neg_ℤ (pos dead_band)) f && le_z f (pos dead_band)) ≡ false

pub returns-then-f-le-DEAD_BAND : goal.returns-then-f-le-DEAD_BAND
unfolding setpoint_of
returns-then-f-le-DEAD_BAND c = met _ _ c.requires (search tests depth 8)

pub returns-then-f-ge-FULL_ACTIVATION : goal.returns-then-f-ge-FULL_ACTIVATION
unfolding setpoint_of
returns-then-f-ge-FULL_ACTIVATION c =
    let o : Outside c.args.deviation.0 = elim c.else-f.branch [ else-f-via-then-f+else-f-le-DEAD_BAND w ↦ search tests depth 8 | else-f-via-else-f w ↦ search tests depth 8 ] in
    met _ _ c.requires (search tests depth 12)

pub returns-then-f-2 : goal.returns-then-f-2
unfolding setpoint_of
returns-then-f-2 c =
    let o : Outside c.args.deviation.0 = elim c.else-f.branch [ else-f-via-then-f+else-f-le-DEAD_BAND w ↦ search tests depth 8 | else-f-via-else-f w ↦ search tests depth 8 ] in
    let t : le_z (pos full_activation) c.args.deviation.0 ≡ false = search tests in
    let u : le_z c.args.deviation.0 (neg_ℤ (pos full_activation)) ≡ true = search tests in
    met _ _ c.requires (rw (o, t, u))

pub droop-requires : goal.droop-requires
droop-requires c = (c.requires, partly _ (search tests) (search tests))

pub returns : goal.returns
returns c =
    let o : Outside c.args.deviation.0 = elim c.else-f.branch [ else-f-via-then-f+else-f-le-DEAD_BAND w ↦ search tests depth 8 | else-f-via-else-f w ↦ search tests depth 8 ] in
    met _ _ c.requires (c.droop.ensures ∙ sym (by_droop _ _ o (search tests) (search tests)))
