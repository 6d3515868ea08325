-- FCR's weight factor by age (02, W5), to be held against figure 6-1 of the guide (004), age by age: "W5's figures are those for 15 seconds, in 540ths" (02, W9).
-- The band goes by the formula (specs/Band.antt); claim `figures` says that these are its figures at 15 seconds.
use Rattle.std.specs.Prelude.{ℕ, cond, List, [], ◌∷◌, eqb}

-- "540 for ages 0 to 15, then 252 at 16, 234 at 17, falling by 18 to 0 at 30": the age in seconds, and what a change of 1 kW weighs then, in 540ths of a kW
abbrev pub figure61 : List (ℕ × ℕ)
figure61 =
    (0, 540)
    ∷ (1, 540)
    ∷ (2, 540)
    ∷ (3, 540)
    ∷ (4, 540)
    ∷ (5, 540)
    ∷ (6, 540)
    ∷ (7, 540)
    ∷ (8, 540)
    ∷ (9, 540)
    ∷ (10, 540)
    ∷ (11, 540)
    ∷ (12, 540)
    ∷ (13, 540)
    ∷ (14, 540)
    ∷ (15, 540)
    ∷ (16, 252)
    ∷ (17, 234)
    ∷ (18, 216)
    ∷ (19, 198)
    ∷ (20, 180)
    ∷ (21, 162)
    ∷ (22, 144)
    ∷ (23, 126)
    ∷ (24, 108)
    ∷ (25, 90)
    ∷ (26, 72)
    ∷ (27, 54)
    ∷ (28, 36)
    ∷ (29, 18)
    ∷ (30, 0)
    ∷ []

-- the reaction time that they are for, and the parts of a kW that they count
abbrev pub figures_time : ℕ
figures_time = 15

abbrev pub figures_per_kw : ℕ
figures_per_kw = 540

-- what the case of age a says; 0 where there is none
abbrev pub case_of : ℕ → List (ℕ × ℕ) → ℕ
case_of a [] = 0
case_of a (c ∷ cs) = cond (eqb a c.0) c.1 (case_of a cs)

-- the weight factor at age a
unfoldable pub weight_factor : ℕ → ℕ
weight_factor a = case_of a figure61
