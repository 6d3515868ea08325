-- Figures of a book's blocks, worked out by hand from 01, "Blocks and text" and "When a book is turned down", and from 02, W1: a definition
-- that is changed together with the code does not give them.
use Rattle.std.specs.Prelude.{◌≡◌, ℕ, List, [], ◌∷◌, ◌++◌, length, take, drop, replicate}
use Rattle.codec.specs.Little.{le4}
use Rattle.block.specs.Bytes.{zeros}
use Rattle.block.specs.Check.{check_of}
use Rattle.block.specs.Header.{name, header_number}
use Rattle.block.specs.Block.{due_in, block_number, second_of, seconds_from}
use Rattle.block.specs.Layout.{closed, header_bytes, block_bytes}
use Rattle.block.specs.Writing.{write_header_number, write_block_number}
use Rattle.block.specs.Book.{last_block, blocks_of}

-- a header of these 504 bytes between 'RLIW' and the check
abbrev pub header : List ℕ → List ℕ
header rest = closed (name ++ rest)

-- block 1 with this count, these 11 spare bytes and these 492 bytes from the first second on
abbrev pub block : ℕ → List ℕ → List ℕ → List ℕ
block count spare rest = closed (le4 1 ++ ((count ∷ spare) ++ rest))

-- "Header: 0-3 'RLIW', 4-5 version 1, 6 owner, 8-11 seconds in the book"; "Check, bytes 508-511"
pub record HeaderValues : Type 0 where
  pub size : length (header_bytes 5 90000) ≡ 512
  pub fields : take 12 (header_bytes 5 90000) ≡ 82 ∷ 76 ∷ 73 ∷ 87 ∷ 1 ∷ 0 ∷ 5 ∷ 0 ∷ 144 ∷ 95 ∷ 1 ∷ 0 ∷ []
  pub check : drop 508 (header_bytes 5 90000) ≡ 27 ∷ 12 ∷ 0 ∷ 0 ∷ []
  -- byte 507 is weighed by 508, byte 508 not at all
  pub check_last : check_of (zeros 507 ++ (1 ∷ [])) ≡ 509
  pub check_past : check_of (zeros 508 ++ (1 ∷ [])) ≡ 1
  -- 12 to 18 in order: each header has the later faults too
  pub short : header_number (zeros 511) ≡ 12
  pub wrong_check : header_number (zeros 512) ≡ 13
  pub wrong_name : header_number (closed (zeros 508)) ≡ 14
  pub wrong_version : header_number (header (2 ∷ 0 ∷ 8 ∷ 1 ∷ zeros 500)) ≡ 15
  pub owner_8 : header_number (header (1 ∷ 0 ∷ 8 ∷ 1 ∷ zeros 500)) ≡ 16
  pub no_seconds : header_number (header (1 ∷ 0 ∷ 7 ∷ 1 ∷ zeros 500)) ≡ 17
  pub seconds_90001 : header_number (header (1 ∷ 0 ∷ 7 ∷ 1 ∷ 145 ∷ 95 ∷ 1 ∷ zeros 497)) ≡ 17
  pub spare_7 : header_number (header (1 ∷ 0 ∷ 7 ∷ 1 ∷ 144 ∷ 95 ∷ 1 ∷ zeros 497)) ≡ 18
  pub spare_12 : header_number (header (1 ∷ 0 ∷ 7 ∷ 0 ∷ 144 ∷ 95 ∷ 1 ∷ 0 ∷ 1 ∷ zeros 495)) ≡ 18
  pub spare_507 : header_number (header (1 ∷ 0 ∷ 7 ∷ 0 ∷ 144 ∷ 95 ∷ 1 ∷ (zeros 496 ++ (1 ∷ [])))) ≡ 18
  pub accepted : header_number (header (1 ∷ 0 ∷ 7 ∷ 0 ∷ 144 ∷ 95 ∷ 1 ∷ zeros 497)) ≡ 0

-- "Others: 0-3 block number from 1, 4 seconds in it (4, fewer only in the last), from 16 on 108 bytes a second"
pub record BlockValues : Type 0 where
  -- block 2 of one second whose bytes are all 1
  pub fields : take 16 (block_bytes 2 (replicate 108 1)) ≡ 2 ∷ 0 ∷ 0 ∷ 0 ∷ 1 ∷ zeros 11
  pub second : take 109 (drop 16 (block_bytes 2 (replicate 108 1))) ≡ replicate 108 1 ++ (0 ∷ [])
  pub check : drop 508 (block_bytes 2 (replicate 108 1)) ≡ 198 ∷ 29 ∷ 0 ∷ 0 ∷ []
  -- the fourth second's bytes are 340 to 447
  pub fourth : second_of (zeros 340 ++ (replicate 108 1 ++ zeros 64)) 3 ≡ replicate 108 1
  -- "the smaller of 4 and seconds - 4 × (n - 1)"
  pub due_first : due_in 5 1 ≡ 4
  pub due_last : due_in 5 2 ≡ 1
  pub due_none : due_in 4 2 ≡ 0
  pub last_of_4 : last_block 4 ≡ 1
  pub last_of_5 : last_block 5 ≡ 2
  -- seconds in turn; "12 for a short block .. 21 for bytes after the last"
  pub in_turn : seconds_from (zeros 16 ++ (replicate 108 1 ++ (replicate 108 2 ++ zeros 280))) 0 2 ≡ replicate 108 1 ∷ replicate 108 2 ∷ []
  pub short_block : (blocks_of 1 []).number ≡ 12
  pub after_last : (blocks_of 1 (block_bytes 1 (zeros 108) ++ (0 ∷ []))).number ≡ 21
  -- 12, 13, 19, 20, 18 in order: each block has the later faults too
  pub short : block_number (zeros 511) 1 1 ≡ 12
  pub wrong_check : block_number (zeros 512) 1 1 ≡ 13
  pub wrong_number : block_number (block 2 (replicate 11 1) (replicate 492 1)) 1 2 ≡ 19
  pub number_0 : block_number (closed (zeros 508)) 1 0 ≡ 19
  pub none_due : block_number (block 2 (replicate 11 1) (replicate 492 1)) 0 1 ≡ 19
  pub wrong_count : block_number (block 2 (replicate 11 1) (replicate 492 1)) 1 1 ≡ 20
  pub spare_5 : block_number (block 1 (1 ∷ zeros 10) (zeros 492)) 1 1 ≡ 18
  pub spare_15 : block_number (block 1 (zeros 10 ++ (1 ∷ [])) (zeros 492)) 1 1 ≡ 18
  pub unused_124 : block_number (block 1 (zeros 11) (zeros 108 ++ (1 ∷ zeros 383))) 1 1 ≡ 18
  pub unused_507 : block_number (block 1 (zeros 11) (zeros 491 ++ (1 ∷ []))) 1 1 ≡ 18
  pub accepted : block_number (block 1 (zeros 11) (replicate 108 1 ++ zeros 384)) 1 1 ≡ 0

-- 02, W1: "12, 16 and 17 .. in that order"; "19 for block number 0, after 12. 23 when its seconds' bytes aren't 1 to 4 times 108, after 19"
pub record WriterValues : Type 0 where
  pub header_short : write_header_number 511 8 0 ≡ 12
  pub owner_8 : write_header_number 512 8 0 ≡ 16
  pub no_seconds : write_header_number 512 7 0 ≡ 17
  pub seconds_90001 : write_header_number 512 7 90001 ≡ 17
  pub header_fits : write_header_number 512 7 90000 ≡ 0
  pub block_long : write_block_number 513 0 0 ≡ 12
  pub number_0 : write_block_number 512 0 0 ≡ 19
  pub no_bytes : write_block_number 512 1 0 ≡ 23
  pub bytes_107 : write_block_number 512 1 107 ≡ 23
  pub bytes_109 : write_block_number 512 1 109 ≡ 23
  pub one_second : write_block_number 512 1 108 ≡ 0
  pub four_seconds : write_block_number 512 1 432 ≡ 0
  pub five_seconds : write_block_number 512 1 540 ≡ 23

pub record Values : Type 0 where
  pub header : HeaderValues
  pub block : BlockValues
  pub writers : WriterValues
