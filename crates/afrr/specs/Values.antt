-- Values of aFRR (01, "Values to hold"), and others at the edges of its rules and of the sheet's ranges. The proof is `values` of proofs/Values.antt.
use Rattle.std.specs.Prelude.{ℕ, ◌-◌, ◌≡◌, [], ◌∷◌, ◌++◌, ℤ, pos, neg_ℤ, replicate}
use Rattle.power.specs.Units.{kw, most_reserve}
use Rattle.sheet.specs.declared.Sheet.{Sheet}
use Rattle.sheet.specs.Sheet.{default_sheet, first_figures}
use Rattle.sheet.specs.Values.{sheet_of}
use Rattle.afrr.specs.declared.Second.{Second}
use Rattle.afrr.specs.Band.{gradient, band_at}

-- a second with the setpoint s, and what is held up and down
abbrev pub second : ℤ → ℤ → ℤ → Second
second s up down = record { setpoint = kw s; up = kw up; down = kw down }

abbrev pub quiet : Second
quiet = second (pos 0) (pos 0) (pos 0)

-- sheets with another reaction time, floor or least range; FCR's figures are not aFRR's
abbrev pub with_reaction : ℕ → Sheet
with_reaction q = sheet_of 50 5 20 (pos 1000) 5 q

abbrev pub with_floor : ℕ → Sheet
with_floor p = sheet_of 5 p 20 (pos 1000) 15 30

abbrev pub with_least : ℕ → Sheet
with_least l = sheet_of 5 5 20 (pos l) 15 30

-- "aFRR held up 10,000, setpoint 10,000 from second 0": the published lower limit at second n
abbrev pub ten_thousand : Second
ten_thousand = second (pos 10000) (pos 10000) (pos 0)

abbrev pub lower_at : Sheet → ℕ → ℤ
lower_at sh n = (band_at sh (replicate n ten_thousand) ten_thousand).low.0

-- all is held up for a second, at the setpoint 0: with a floor of 5 % the upper limit is then 50,000
abbrev pub all_held : Second
all_held = second (pos 0) (pos most_reserve) (pos 0)

-- the upper limit n seconds later, with nothing held
abbrev pub after_held : Sheet → ℕ → ℤ
after_held sh n = (band_at sh (replicate (n - 1) quiet ++ (all_held ∷ [])) quiet).high.0

-- the upper limit one second later, where the setpoint was -1,000,000 in the second n ago, 2 or more: where that counts it falls by 1,000,000 kW over the spread
abbrev pub dip : Second
dip = second (neg_ℤ (pos most_reserve)) (pos 0) (pos 0)

abbrev pub after_dip : Sheet → ℕ → ℤ
after_dip sh n = (band_at sh (all_held ∷ replicate (n - 2) quiet ++ (dip ∷ [])) quiet).high.0

-- the upper limit where the setpoint was 1,000,000 in the second n ago, and 0 in all others
abbrev pub peak : Second
peak = second (pos most_reserve) (pos 0) (pos 0)

abbrev pub after_peak : Sheet → ℕ → ℤ
after_peak sh n = (band_at sh (replicate (n - 1) quiet ++ (peak ∷ [])) quiet).high.0

-- the gradient, in grains, where the setpoint was -1,000,000 in the second n ago, and 0 in all others
abbrev pub gradient_after : Sheet → ℕ → ℤ
gradient_after sh n = gradient sh (replicate (n - 1) (kw (pos 0)) ++ (kw (neg_ℤ (pos most_reserve)) ∷ []))

-- by document 01's figures
pub record FirstValues : Type 0 where
  -- "lower limit 0 at 29, 38 at 30, 9,482 at 285, 9,500 at 286": the 30 seconds of reaction, and s minus 5 %
  pub lower_at_29 : lower_at first_figures 29 ≡ pos 0
  pub lower_at_30 : lower_at first_figures 30 ≡ pos 38
  pub lower_at_285 : lower_at first_figures 285 ≡ pos 9482
  pub lower_at_286 : lower_at first_figures 286 ≡ pos 9500
  -- the last limit is carried exact: rounded each second it would be 49,943
  pub carried_exact : after_held first_figures 3 ≡ pos 49944
  -- 5,000 kW in 270 seconds: 500 in 27
  pub least_change : after_held first_figures 27 ≡ pos 49500
  -- "s(t-300) to s(t-30)": a second in which the dip counts, and one in which the limit falls by 5,000 / 270 alone
  pub dip_29_ago : after_dip first_figures 29 ≡ pos 49981
  pub dip_30_ago : after_dip first_figures 30 ≡ pos 46296
  pub dip_300_ago : after_dip first_figures 300 ≡ pos 46296
  pub dip_301_ago : after_dip first_figures 301 ≡ pos 49981
  -- "s(t-30) to s(t-1)"
  pub peak_30_ago : after_peak first_figures 30 ≡ pos most_reserve
  pub peak_31_ago : after_peak first_figures 31 ≡ pos 996296
  -- "Held is 'up' for s above 0, 'down' below, the larger at 0"
  pub held_above_0 : (band_at first_figures [] (second (pos 1) (pos 1000) (pos 2000))).high.0 ≡ pos 51
  pub held_below_0 : (band_at first_figures [] (second (neg_ℤ (pos 1)) (pos 2000) (pos 1000))).low.0 ≡ neg_ℤ (pos 51)
  pub larger_down : (band_at first_figures [] (second (pos 0) (pos 1000) (pos 2000))).high.0 ≡ pos 100
  pub larger_up : (band_at first_figures [] (second (pos 0) (pos 2000) (pos 1000))).high.0 ≡ pos 100
  -- "Before second 0 all setpoints and limits are 0."
  pub at_first : band_at first_figures [] quiet ≡ record { low = kw (pos 0); high = kw (pos 0) }

-- what another least range or floor changes (02, W9)
pub record FigureValues : Type 0 where
  -- "The default range is now 1,000 kW": 100 in 27 seconds
  pub default_change : after_held default_sheet 27 ≡ pos 49900
  -- a least range of 100,000 kW: 10,000 in 27 seconds
  pub least_100000 : after_held (with_least 100000) 27 ≡ pos 40000
  -- a least range of 1 kW: 49,999.05, which is 5 % of 999,981, is below 49,999 after 14 seconds of 1/270 kW, not after 13
  pub least_1_at_13 : (band_at (with_least 1) (replicate 12 quiet ++ (second (pos 0) (pos 999981) (pos 0) ∷ [])) quiet).high.0 ≡ pos 49999
  pub least_1_at_14 : (band_at (with_least 1) (replicate 13 quiet ++ (second (pos 0) (pos 999981) (pos 0) ∷ [])) quiet).high.0 ≡ pos 49998
  -- floors of 0 and 50 % of 10,000
  pub floor_0 : (band_at (with_floor 0) [] ten_thousand).high.0 ≡ pos 10000
  pub floor_50 : (band_at (with_floor 50) [] ten_thousand).high.0 ≡ pos 15000
  -- 50 % of 1,001 is not a whole kW: 1 + 500.5, rounded inward
  pub floor_half : band_at (with_floor 50) [] (second (pos 1) (pos 1001) (pos 0)) ≡ record { low = kw (neg_ℤ (pos 499)); high = kw (pos 501) }

-- a reaction time of 1 second: s(t) doesn't count, s(t-1) does
pub record OneValues : Type 0 where
  pub lower_at_0 : lower_at (with_reaction 1) 0 ≡ pos 0
  pub lower_at_1 : lower_at (with_reaction 1) 1 ≡ pos 34
  pub dip_now : (band_at (with_reaction 1) (all_held ∷ []) dip).high.0 ≡ pos 49996
  pub dip_1_ago : (band_at (with_reaction 1) (dip ∷ all_held ∷ []) quiet).high.0 ≡ pos 46652
  -- the window's far end: 1,000,000 kW or 1,000 kW over 299 seconds, a kW being 1,000 × 299 grains
  pub gradient_1_ago : gradient_after (with_reaction 1) 1 ≡ pos 1000000000
  pub gradient_300_ago : gradient_after (with_reaction 1) 300 ≡ pos 1000000000
  pub gradient_301_ago : gradient_after (with_reaction 1) 301 ≡ pos 1000000
  pub peak_1_ago : after_peak (with_reaction 1) 1 ≡ pos most_reserve
  pub peak_2_ago : after_peak (with_reaction 1) 2 ≡ pos 996655
  -- 1,000 kW over 299 seconds, carried exact: rounded each second it would be 49,988
  pub carried_exact : after_held (with_reaction 1) 3 ≡ pos 49989

-- a reaction time of 60 seconds
pub record SixtyValues : Type 0 where
  pub lower_at_59 : lower_at (with_reaction 60) 59 ≡ pos 0
  pub lower_at_60 : lower_at (with_reaction 60) 60 ≡ pos 42
  pub dip_59_ago : after_dip (with_reaction 60) 59 ≡ pos 49995
  pub dip_60_ago : after_dip (with_reaction 60) 60 ≡ pos 45833
  pub gradient_59_ago : gradient_after (with_reaction 60) 59 ≡ pos 1000000
  pub gradient_60_ago : gradient_after (with_reaction 60) 60 ≡ pos 1000000000
  pub gradient_300_ago : gradient_after (with_reaction 60) 300 ≡ pos 1000000000
  pub gradient_301_ago : gradient_after (with_reaction 60) 301 ≡ pos 1000000
  pub peak_60_ago : after_peak (with_reaction 60) 60 ≡ pos most_reserve
  pub peak_61_ago : after_peak (with_reaction 60) 61 ≡ pos 995833
  -- 1,000 kW over 240 seconds: 100 in 24
  pub change : after_held (with_reaction 60) 24 ≡ pos 49900

pub record Values : Type 0 where
  pub first : FirstValues
  pub figures : FigureValues
  pub one : OneValues
  pub sixty : SixtyValues
