-- Numbers in bytes, worked out by hand: "little-endian, signed ones in two's complement" (01, "Units and the plant second").
use Rattle.std.specs.Prelude.{◌≡◌, [], ◌∷◌, pos, neg_ℤ}
use Rattle.codec.specs.Little.{u16_at, u32_at, le2, le4, i16_at, i32_at}
use Rattle.codec.specs.Put.{over}

pub record Values : Type 0 where
  pub two_bytes : u16_at (9 ∷ 1 ∷ 2 ∷ []) 1 ≡ 513
  pub four_bytes : u32_at (9 ∷ 1 ∷ 2 ∷ 3 ∷ 4 ∷ []) 1 ≡ 67305985
  pub put_two : le2 513 ≡ 1 ∷ 2 ∷ []
  pub put_four : le4 67305985 ≡ 1 ∷ 2 ∷ 3 ∷ 4 ∷ []
  -- the largest positive number and the one after it, the lowest
  pub most_16 : i16_at (255 ∷ 127 ∷ []) 0 ≡ pos 32767
  pub least_16 : i16_at (0 ∷ 128 ∷ []) 0 ≡ neg_ℤ (pos 32768)
  pub minus_one_16 : i16_at (255 ∷ 255 ∷ []) 0 ≡ neg_ℤ (pos 1)
  pub most_32 : i32_at (255 ∷ 255 ∷ 255 ∷ 127 ∷ []) 0 ≡ pos 2147483647
  pub least_32 : i32_at (0 ∷ 0 ∷ 0 ∷ 128 ∷ []) 0 ≡ neg_ℤ (pos 2147483648)
  -- bytes before and after the text stay
  pub put : over (1 ∷ 2 ∷ 3 ∷ 4 ∷ []) 1 (8 ∷ 9 ∷ []) ≡ 1 ∷ 8 ∷ 9 ∷ 4 ∷ []
