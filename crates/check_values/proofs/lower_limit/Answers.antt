-- A step at the state that a past leaves answers over that past.
use Rattle.std.proofs.Common.{◌≡◌, suc, [], ap, ◌∙◌, add-one, replicate, arith}
use Rattle.numbers.proofs.Fit.{within_lit}
use Rattle.power.specs.Units.{most_reserve}
use Rattle.afrr.specs.declared.Second.{Second}
use Rattle.afrr.specs.declared.AfrrState.{AfrrState}
use Rattle.afrr.specs.State.{AfrrStep, Fair, step_in}
use Rattle.afrr.specs.Values.{ten_thousand, lower_at}
use Rattle.afrr.proofs.Claims.{claims}
use Rattle.check_values.proofs.lower_limit.Goals as goal

abbrev x : Second
x = ten_thousand

fair : Fair x
fair =
    record {
      setpoint_range = within_lit most_reserve x.setpoint.0 tt;
      up_range = within_lit most_reserve x.up.0 tt;
      down_range = within_lit most_reserve x.down.0 tt;
      up_sign = record { le = tt };
      down_sign = record { le = tt };
    }

pub step-band-requires : goal.step-band-requires
step-band-requires c = (c.new-state.ensures.ready _, fair)

pub loop-init : goal.loop-init
loop-init c =
    let sh = c.first_sheet-sheet in
    let e = c.step-band.ensures in
    record {
      ready = e.ready;
      answered = e.is ∙ ap (λ (st : AfrrState). step_in sh.result.figures st x) (c.new-state.ensures.is sh.result.figures) ∙ claims.follows sh.result.figures sh.result.in_range [] x;
    }

pub step-band-requires-in-loop : goal.step-band-requires-in-loop
step-band-requires-in-loop c = (c.loop.invariant.ready, fair)

pub loop-preserved : goal.loop-preserved
loop-preserved c =
    let sh = c.first_sheet-sheet in
    let e = c.step-band-in-loop.ensures in
    let before = ap (λ (r : AfrrStep). r.state) c.loop.invariant.answered in
    record {
      ready = e.ready;
      answered = rw add-one (e.is ∙ ap (λ (st : AfrrState). step_in sh.result.figures st x) before ∙ claims.follows sh.result.figures sh.result.in_range (replicate (suc c.loop.counter) x) x);
    }

pub returns : goal.returns
returns c =
    let e : c.loop.counter ≡ c.args.second = omega arith in
    (λ i. (c.loop.invariant.answered i).band.low.0) ∙ (λ i. lower_at (c.first_sheet-sheet.ensures i) (e i))
