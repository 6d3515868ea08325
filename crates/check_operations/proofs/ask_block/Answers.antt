-- The reader answers as its definition says, to the bytes that `blank_block` gives.
use Rattle.std.proofs.Common.{◌≡◌, ap, rules}
use Rattle.refusals.specs.Refusals.{number_of}
use Rattle.check_operations.specs.Numbers.{said_number, blank_number}
use Rattle.check_operations.proofs.ask_block.Goals as goal

pub returns-in_err-read_block : goal.returns-in_err-read_block
returns-in_err-read_block c =
    let asked : number_of c.in_err-read_block.field-0.0 ≡ blank_number c.args.number =
    ap said_number (rw (c.blank_block-bytes.ensures, c.from.ensures) at c.in_err-read_block.ensures.count) in
    search rules

pub returns : goal.returns
returns c = ap said_number (rw (c.blank_block-bytes.ensures, c.from.ensures) at c.in_ok-read_block.ensures.count)
