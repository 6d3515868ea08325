-- What is written so far, by `Walked`.
use Rattle.sharing.proofs.Down.{start, product_fits}
use Rattle.sharing.proofs.parts.round_down.Goals as goal

pub loop-i-init : goal.loop-i-init
loop-i-init c = start _ _ _ _ c.requires.by_total c.requires.places

pub overflow_mul-product : goal.overflow_mul-product
overflow_mul-product c =
    product_fits c.args.error c.args.tolerances.now c.loop-i.i (rw c.requires.by_total.is at c.requires.by_total.products)
