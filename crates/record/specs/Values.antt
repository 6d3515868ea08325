-- Values that hold the record's places and bits. The proof is `values` of proofs/Values.antt.
use Rattle.std.specs.Prelude.{◌≡◌, true, false, List, [], ◌∷◌, ℕ, pos, negsuc}
use Rattle.power.specs.Units.{kw}
use Rattle.refusals.specs.Refusals.{Given, Refused}
use Rattle.record.specs.Record.{record_of, moved_back, reading_of, bits_of}

-- 36 bytes with another figure in each field: 1 to 7 in the powers, a deviation of -1, status 5; with this delivery end and call byte
abbrev pub with_end : ℕ → ℕ → List ℕ
with_end end call =
    1 ∷ 0 ∷ 0 ∷ 0 ∷ 2 ∷ 0 ∷ 0 ∷ 0 ∷ 3 ∷ 0 ∷ 0 ∷ 0 ∷ 4 ∷ 0 ∷ 0 ∷ 0 ∷ 5 ∷ 0 ∷ 0 ∷ 0 ∷ 6 ∷ 0 ∷ 0 ∷ 0 ∷ 7 ∷ 0 ∷ 0 ∷ 0 ∷ end ∷ 0 ∷ 0 ∷ 0 ∷ 255 ∷ 255 ∷ 5 ∷ call ∷ []

-- an end of 8, a call
abbrev pub bytes : List ℕ
bytes = with_end 8 1

pub record Values : Type 0 where
  pub fields : record_of bytes ≡ record { measured = kw (pos 1); working_point = kw (pos 2); fcr_held = kw (pos 3); afrr_up = kw (pos 4); afrr_down = kw (pos 5); afrr_setpoint = kw (pos 6); mfrr_target = kw (pos 7); delivery_end = 8; deviation = record { 0 = negsuc 0 }; status = 5; call = 1 }
  pub whole : reading_of bytes ≡ Given (record_of bytes)
  pub longer : reading_of (0 ∷ bytes) ≡ Refused 12
  pub bits_of_1 : bits_of 1 ≡ record { fcr = true; afrr = false; mfrr = false }
  pub bits_of_2 : bits_of 2 ≡ record { fcr = false; afrr = true; mfrr = false }
  pub bits_of_4 : bits_of 4 ≡ record { fcr = false; afrr = false; mfrr = true }
  -- moved back by less than the end and by more; without a call nothing moves
  pub end_moved : moved_back 3 bytes ≡ with_end 5 1
  pub end_moved_to_0 : moved_back 9 bytes ≡ with_end 0 1
  pub no_call_stays : moved_back 3 (with_end 8 0) ≡ with_end 8 0
