-- A header that is accepted has at most 90,000 seconds.
use Rattle.std.proofs.Common.{sym, ◌∙◌}
use Rattle.check_copy.proofs.Copy.{few}
use Rattle.check_copy.proofs.Copier.send_header.Goals as goal

pub returns : goal.returns
returns g c = few _ _ _ _ _ (sym c.ok.ensures.value ∙ c.in_ok-header.was) c.copy_header.ensures
