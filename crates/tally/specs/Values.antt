-- Values of a count with a second more: which side it goes to, and by how many kW. The proof is `values` of proofs/Values.antt.
use Rattle.std.specs.Prelude.{◌≡◌, ℕ}
use Rattle.row.specs.declared.side.BandSide.TheVariants.{Within, Below, Above}
use Rattle.row.specs.declared.side.KindCounts.{KindCounts}
use Rattle.tally.specs.Tally.{side_count, kind_by}

-- seconds and kW-seconds below, and above
abbrev pub counted : ℕ → ℕ → ℕ → ℕ → KindCounts
counted a b c d = record { below = side_count a b; above = side_count c d }

pub record Values : Type 0 where
  pub below : kind_by (counted 1 2 3 4) (Below 7) ≡ counted 2 9 3 4
  pub above : kind_by (counted 1 2 3 4) (Above 5) ≡ counted 1 2 4 9
  pub within : kind_by (counted 1 2 3 4) Within ≡ counted 1 2 3 4
