-- The writers' claims, from their parts. Assumes nothing.
use Rattle.block.specs.WriterClaims.{WriterClaims}
use Rattle.block.proofs.ReadBack.{header_reads_back, block_reads_back, header_is_written, block_is_written}
use Rattle.block.proofs.Book.{book_reads_back}

pub claims : WriterClaims
claims =
    record {
      header_reads_back = header_reads_back;
      block_reads_back = block_reads_back;
      book_reads_back = book_reads_back;
      header_is_written = header_is_written;
      block_is_written = block_is_written;
    }
