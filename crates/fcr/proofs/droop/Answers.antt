-- The product and the quotient fit their types.
use Rattle.numbers.proofs.Read.{is, same, carry}
use Rattle.fcr.proofs.Range.{droop_fits}
use Rattle.fcr.proofs.droop.Goals as goal

pub overflow_cast-result : goal.overflow_cast-result
overflow_cast-result c =
    let fits = droop_fits c.args.held.0 c.args.deviation.0 c.requires.0 c.requires.1 in
    let product = fits.0 in
    let quotient = fits.1 in
    rw (c.from.ensures, c.from-2.ensures, c.from-3.ensures) (carry fits.2 (search is depth 16))

pub returns : goal.returns
returns c =
    let fits = droop_fits c.args.held.0 c.args.deviation.0 c.requires.0 c.requires.1 in
    let product = fits.0 in
    let quotient = fits.1 in
    let in_kw = fits.2 in
    rw (c.from.ensures, c.from-2.ensures, c.from-3.ensures) (search same depth 16)
