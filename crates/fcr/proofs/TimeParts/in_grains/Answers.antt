-- The product fits its type.
use Rattle.numbers.proofs.Read.{same}
use Rattle.sheet.specs.Sheet.{per_time_part}
use Rattle.fcr.proofs.Parts.{part_most, part_within}
use Rattle.fcr.proofs.TimeParts.in_grains.Goals as goal

pub returns : goal.returns
unfolding per_time_part
returns c =
    let h = part_most c.args.sheet.figures c.args.sheet.in_range in
    let k = part_within c.args.sheet.figures c.args.sheet.in_range in
    rw (c.from.ensures, c.from-2.ensures) (search same depth 16)
