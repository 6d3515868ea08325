-- From the first byte on, that is `printed` of all.
use Rattle.stdio.proofs.Rest.{from_start}
use Rattle.stdio.proofs.send_book.Goals as goal

pub returns : goal.returns
returns g c = rw (c.new.ensures, from_start c.args.sheet.figures c.args.form c.args.sheet.in_range) at c.run.ensures
