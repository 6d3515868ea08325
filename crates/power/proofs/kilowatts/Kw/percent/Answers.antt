-- A percentage of a kW is a whole number of grains.
use Rattle.numbers.proofs.Read.{same}
use Rattle.power.proofs.Part.{product_fits, part_most, part_within, part_read}
use Rattle.power.proofs.kilowatts.Kw.percent.Goals as goal

pub overflow_mul-part : goal.overflow_mul-part
overflow_mul-part c = product_fits _ _ c.args.per.divides c.requires

pub overflow_mul-result : goal.overflow_mul-result
overflow_mul-result c = let h = part_read _ _ c.args.per.divides c.requires in rw (c.from.ensures, c.from-2.ensures) (search same depth 9)

pub returns : goal.returns
returns c =
    let h = part_most _ _ c.args.per.divides c.requires in
    let k = part_within _ _ c.args.per.divides c.requires in
    rw (c.from.ensures, c.from-2.ensures) (search same depth 16)
