-- Values at the edges of rounding inward, at 540 grains to the kW and at another number. The proof is `values` of proofs/Values.antt.
use Rattle.std.specs.Prelude.{◌≡◌, pos, neg_ℤ}
use Rattle.power.specs.Units.{kw, grains, in_grains, percent_of}
use Rattle.power.specs.Inward.{upper_kw, lower_kw, published_of}

pub record Values : Type 0 where
  -- a whole kW, and a grain beside it
  pub upper_whole : upper_kw 540 (pos 540) ≡ pos 1
  pub upper_less : upper_kw 540 (pos 539) ≡ pos 0
  pub upper_below_0 : upper_kw 540 (neg_ℤ (pos 1)) ≡ neg_ℤ (pos 1)
  pub lower_whole : lower_kw 540 (pos 540) ≡ pos 1
  pub lower_more : lower_kw 540 (pos 541) ≡ pos 2
  pub lower_below_0 : lower_kw 540 (neg_ℤ (pos 1)) ≡ pos 0
  -- each side by its own limit
  pub published : published_of 540 (record { lower = grains (pos 1); upper = grains (pos 1619) }) ≡ record { low = kw (pos 1); high = kw (pos 2) }
  -- at 897,000 grains to the kW
  pub many_whole : upper_kw 897000 (in_grains 897000 (pos 2)) ≡ pos 2
  pub many_less : upper_kw 897000 (pos 1793999) ≡ pos 1
  -- 5 % of 7 kW, and 120 %
  pub five_percent_lem : percent_of 81000 5 (pos 7) ≡ pos 28350
  pub times_1_2 : percent_of 81000 120 (pos 7) ≡ pos 680400
