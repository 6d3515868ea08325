-- Values of FCR (01, "Values to hold"), and others at the edges of its rules. The proof is `values` of proofs/Values.antt.
use Rattle.std.specs.Prelude.{ℕ, ◌≡◌, List, [], ◌∷◌, ℤ, pos, neg_ℤ, ◌-ℤ◌, replicate}
use Rattle.power.specs.declared.kilowatts.Kw.{Kw}
use Rattle.power.specs.Units.{kw}
use Rattle.sheet.specs.declared.Sheet.{Sheet}
use Rattle.sheet.specs.Sheet.{first_figures}
use Rattle.sheet.specs.Values.{sheet_of}
use Rattle.fcr.specs.Setpoint.{setpoint_of}
use Rattle.fcr.specs.Factor.{weight_factor}
use Rattle.fcr.specs.Band.{band_at}

-- the published upper limit less the setpoint, at the setpoint s after the past h
abbrev pub tolerance : Sheet → List Kw → ℤ → ℤ → ℤ
tolerance sh h s held = (band_at sh h (kw s) (kw held)).high.0 -ℤ s

-- one fall from 0 to -d, at age a
abbrev pub fall_by : Sheet → ℕ → ℤ → ℕ → ℤ
fall_by sh d held a = tolerance sh (replicate a (kw (neg_ℤ (pos d)))) (neg_ℤ (pos d)) held

-- "FCR held 400, one fall 0 to -100" at age a, by document 01's figures
abbrev pub fall_tolerance : ℕ → ℤ
fall_tolerance a = fall_by first_figures 100 (pos 400) a

-- the sheets with a reaction time of 5, with FCR's floor at either end of its range (and aFRR's at the other), and with the most grains to the kW
abbrev pub quick : Sheet
quick = sheet_of 5 5 20 (pos 1000) 5 30

abbrev pub no_floor : Sheet
no_floor = sheet_of 0 50 20 (pos 1000) 15 30

abbrev pub half_floor : Sheet
half_floor = sheet_of 50 0 20 (pos 1000) 15 30

abbrev pub finest : Sheet
finest = sheet_of 5 5 20 (pos 1000) 15 1

-- those that document 01 marks with *
pub record Marked : Type 0 where
  -- "held 400 at 10 gives -20 and at -10 gives 20 .. held 400 at 9 gives 0" (02, W4, in place of 01's 0* at 10)
  pub held_400_at_9 : setpoint_of (pos 400) (pos 9) ≡ pos 0
  pub held_400_at_10 : setpoint_of (pos 400) (pos 10) ≡ neg_ℤ (pos 20)
  pub held_400_at_minus_10 : setpoint_of (pos 400) (neg_ℤ (pos 10)) ≡ pos 20
  -- "FCR, held 400: .. 11 gives -22*, 199 gives -398*, 200 gives -400*. Held 333, deviation -50: 83*."
  pub held_400_at_11 : setpoint_of (pos 400) (pos 11) ≡ neg_ℤ (pos 22)
  pub held_400_at_199 : setpoint_of (pos 400) (pos 199) ≡ neg_ℤ (pos 398)
  pub held_400_at_200 : setpoint_of (pos 400) (pos 200) ≡ neg_ℤ (pos 400)
  pub held_333_at_minus_50 : setpoint_of (pos 333) (neg_ℤ (pos 50)) ≡ pos 83
  -- "FCR held 400, one fall 0 to -100: upper tolerance 100 at age 15*, 46 at 16*"
  pub fall_at_age_15 : fall_tolerance 15 ≡ pos 100
  pub fall_at_age_16 : fall_tolerance 16 ≡ pos 46

pub record Values : Type 0 where
  pub marked : Marked
  -- the other side of the dead band, of full activation and of the cut toward zero
  pub held_400_at_minus_9 : setpoint_of (pos 400) (neg_ℤ (pos 9)) ≡ pos 0
  pub held_400_at_minus_11 : setpoint_of (pos 400) (neg_ℤ (pos 11)) ≡ pos 22
  pub held_400_at_201 : setpoint_of (pos 400) (pos 201) ≡ neg_ℤ (pos 400)
  pub held_400_at_minus_201 : setpoint_of (pos 400) (neg_ℤ (pos 201)) ≡ pos 400
  pub held_333_at_50 : setpoint_of (pos 333) (pos 50) ≡ neg_ℤ (pos 83)
  -- "540 for ages 0 to 15, then 252 at 16, 234 at 17, falling by 18 to 0 at 30" (02, W5)
  pub factor_at_15 : weight_factor 15 ≡ 540
  pub factor_at_16 : weight_factor 16 ≡ 252
  pub factor_at_17 : weight_factor 17 ≡ 234
  pub factor_at_29 : weight_factor 29 ≡ 18
  pub factor_at_30 : weight_factor 30 ≡ 0
  -- ".. 20 at 28": 5 % is the larger
  pub fall_at_age_28 : fall_tolerance 28 ≡ pos 20
  -- nothing held: the last age that weighs something, and the last one
  pub fall_at_age_29 : fall_by first_figures 300 (pos 0) 29 ≡ pos 10
  pub fall_at_age_30 : fall_by first_figures 300 (pos 0) 30 ≡ pos 0
  -- two falls are summed; one to below s doesn't count
  pub two_falls : tolerance first_figures (kw (neg_ℤ (pos 100)) ∷ []) (neg_ℤ (pos 200)) (pos 0) ≡ pos 200
  pub fall_below : tolerance first_figures (kw (neg_ℤ (pos 100)) ∷ []) (pos 0) (pos 0) ≡ pos 0
  -- a reaction time of 5 and so a whole time of 10 (02, W9): the last age with all of the weight, the first past it, the last that weighs something, and the last
  pub quick_at_age_5 : fall_by quick 100 (pos 0) 5 ≡ pos 100
  pub quick_at_age_6 : fall_by quick 100 (pos 0) 6 ≡ pos 40
  pub quick_at_age_9 : fall_by quick 100 (pos 0) 9 ≡ pos 10
  pub quick_at_age_10 : fall_by quick 100 (pos 0) 10 ≡ pos 0
  -- FCR's floor at 0 and at 50 %: with no change, and beside a weight of 46
  pub no_floor_lem : tolerance no_floor [] (pos 0) (pos 400) ≡ pos 0
  pub no_floor_fall : fall_by no_floor 100 (pos 400) 28 ≡ pos 6
  pub half_floor_lem : tolerance half_floor [] (pos 0) (pos 400) ≡ pos 200
  pub half_floor_fall : fall_by half_floor 100 (pos 400) 16 ≡ pos 200
  -- aFRR's reaction time changes the grains of a kW, and no band of FCR
  pub finest_at_age_16 : fall_by finest 100 (pos 400) 16 ≡ fall_tolerance 16
  pub finest_at_age_28 : fall_by finest 100 (pos 400) 28 ≡ fall_tolerance 28
