-- The values hold, by computing. Assumes nothing.
use Rattle.std.proofs.Common.{rules}
use Rattle.block.specs.Bytes.{all_zero}
use Rattle.block.specs.Check.{weights, check_of}
use Rattle.block.specs.Header.{header_number}
use Rattle.block.specs.Block.{block_number, seconds_from}
use Rattle.block.specs.Layout.{header_front, block_front}
use Rattle.block.specs.Writing.{write_header_number, write_block_number}
use Rattle.block.specs.Book.{later_blocks}
use Rattle.block.specs.Values.{HeaderValues, BlockValues, WriterValues, Values}

header : HeaderValues
unfolding weights check_of all_zero header_number header_front
header = search rules

block : BlockValues
unfolding weights check_of all_zero block_number block_front seconds_from later_blocks
block = search rules

writers : WriterValues
unfolding write_header_number write_block_number
writers = search rules

pub values : Values
values = record { header = header; block = block; writers = writers }
