-- A law of `said_with` at each return.
use Rattle.std.proofs.Common.{◌≤◌, ◌<◌, length, rules, sym, ap, ◌∙◌}
use Rattle.meters.specs.Binary32.{in_mhz}
use Rattle.meters.specs.Meters.{usable, deviation, deviation_of}
use Rattle.meters.proofs.Choice.{usable_fair, few, none_or_many, count_out_lem, none_usable, one_counts}
use Rattle.meters.proofs.choose.Goals as goal

pub returns-then-not-contains : goal.returns-then-not-contains
returns-then-not-contains c = let h : 1 ≤ length c.args.meters.now → 4 < length c.args.meters.now = λ k. search rules in count_out_lem _ c.args.meters.now (none_or_many _ h)

pub returns-then-not-is_usable : goal.returns-then-not-is_usable
returns-then-not-is_usable c =
    none_usable (length c.args.meters.now) c.args.meters.now (few _ (search rules) (search rules))
    (ap usable (sym c.of_all-best.ensures) ∙ sym c.is_usable.ensures ∙ c.if-not-is_usable.true)

pub of_reading-requires : goal.of_reading-requires
of_reading-requires c = usable_fair c.of_all-best.result (sym c.is_usable.ensures ∙ c.if-not-is_usable.false)

pub returns : goal.returns
returns c =
    ap deviation (c.in_mhz.ensures ∙ ap in_mhz c.of_reading.ensures.is ∙ ap deviation_of c.of_all-best.ensures)
    ∙ one_counts (length c.args.meters.now) c.args.meters.now (few _ (search rules) (search rules))
    (ap usable (sym c.of_all-best.ensures) ∙ sym c.is_usable.ensures ∙ c.if-not-is_usable.false)
