-- It is the fold of `of_two`.
use Rattle.std.proofs.Common.{◌≡◌, rules, fold, ◌∙◌}
use Rattle.meters.specs.Meters.{of_two, counting, failed}
use Rattle.meters.proofs.Choice.{folded}
use Rattle.meters.proofs.of_all.Goals as goal

pub returns : goal.returns
unfolding counting
returns c = let e : c.fold.result ≡ fold of_two failed c.args.meters.now = search rules in e ∙ folded failed c.args.meters.now
