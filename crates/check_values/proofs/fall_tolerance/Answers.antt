-- A step at the state that a past leaves answers over that past.
use Rattle.std.proofs.Common.{◌≡◌, suc, [], pos, neg_ℤ, ◌-ℤ◌, ap, ◌∙◌, add-one, replicate, arith}
use Rattle.numbers.proofs.Fit.{within_lit}
use Rattle.power.specs.declared.kilowatts.Kw.{Kw}
use Rattle.power.specs.Units.{kw, most_reserve}
use Rattle.fcr.specs.declared.FcrState.{FcrState}
use Rattle.fcr.specs.Band.{band_at}
use Rattle.fcr.specs.State.{FcrStep, Fair, step_in}
use Rattle.fcr.proofs.Claims.{claims}
use Rattle.check_values.proofs.fall_tolerance.Goals as goal

abbrev s : Kw
s = kw (neg_ℤ (pos 100))

abbrev held : Kw
held = kw (pos 400)

fair : Fair s held
fair = record { setpoint_range = within_lit most_reserve s.0 tt; held_range = within_lit most_reserve held.0 tt; held_sign = record { le = tt } }

pub step-band-requires : goal.step-band-requires
step-band-requires c = (c.new-state.ensures.1, fair)

pub loop-init : goal.loop-init
loop-init c =
    let sh = c.first_sheet-sheet in
    let e = c.step-band.ensures in
    record {
      ready = e.ready;
      small = e.small.1;
      answered = e.is ∙ ap (λ (st : FcrState). step_in sh.result.figures st s held) c.new-state.ensures.0 ∙ claims.follows sh.result.figures sh.result.in_range [] s held;
    }

pub step-band-requires-in-loop : goal.step-band-requires-in-loop
step-band-requires-in-loop c = (c.loop.invariant.ready, fair)

pub loop-preserved : goal.loop-preserved
loop-preserved c =
    let sh = c.first_sheet-sheet in
    let e = c.step-band-in-loop.ensures in
    let before = ap (λ (r : FcrStep). r.state) c.loop.invariant.answered in
    record {
      ready = e.ready;
      small = e.small.1;
      answered = rw add-one (e.is ∙ ap (λ (st : FcrState). step_in sh.result.figures st s held) before ∙ claims.follows sh.result.figures sh.result.in_range (replicate (suc c.loop.counter) s) s held);
    }

pub returns : goal.returns
returns c =
    let e : c.loop.counter ≡ c.args.age = omega arith in
    let sheet = c.first_sheet-sheet.ensures in
    c.minus.ensures
    ∙ (λ i. (c.loop.invariant.answered i).band.high.0 -ℤ s.0)
    ∙ (λ i. (band_at (sheet i) (replicate (e i) s) s held).high.0 -ℤ s.0)
