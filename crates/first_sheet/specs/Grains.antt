-- Document 01's unit, and its figures in it. Here and in the other files of this crate stands what document 01 gave before the figures became a sheet
-- (02, W9): what no figure touches is taken from the crates of the kinds, the rest is written again.
use Rattle.std.specs.Prelude.{ℕ, ℤ, pos, ◌*ℤ◌}

-- "A grain is 1/540 kW"
abbrev pub first : ℕ
first = 540

-- "5 %" of a power in kW, in grains
abbrev pub five_percent : ℤ → ℤ
five_percent k = k *ℤ pos 27

-- "1.2 ×" a power in kW, in grains
abbrev pub times12 : ℤ → ℤ
times12 k = k *ℤ pos 648
