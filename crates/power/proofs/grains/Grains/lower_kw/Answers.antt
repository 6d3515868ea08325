-- What lies less than a kW above a lower limit rounds down to it.
use Rattle.std.proofs.Common.{◌≡◌, ℕ, ◌-◌, arith, ap, ◌∙◌, ◌+ℤ◌, ◌-ℤ◌, ℤ, pos, w64, to_z, of_z}
use Rattle.numbers.proofs.Read.{is, through}
use Rattle.numbers.proofs.Parts.{nat_eq, sub_nat}
use Rattle.power.specs.Units.{Divides}
use Rattle.power.specs.Inward.{upper_kw, lower_kw}
use Rattle.power.proofs.Part.{per_most, per_read}
use Rattle.power.proofs.Round.{lower_raised, raised_fits}
use Rattle.power.proofs.grains.Grains.lower_kw.Goals as goal

-- a grain less than a kW, as the machine has it
less : (per : ℕ) → Divides per → to_z w64 (of_z w64 (to_z w64 per -ℤ pos 1)) ≡ pos (per - 1)
less per d =
    let m = per_most per d in
    let h = per_read per d in
    through one_less (search is depth 16)
  where
    one_less : pos per -ℤ pos 1 ≡ pos (per - 1)
    one_less = nat_eq (omega (arith, sub_nat (pos per) (pos 1), d.some))

pub plus-raised-requires : goal.plus-raised-requires
plus-raised-requires c = rw (c.from.ensures, less _ c.args.per.divides) (raised_fits _ c.args.per.divides _ c.requires)

-- the raised limit rounds down to the lower limit
raised : (per : ℕ) (v r : ℤ) → Divides per → r ≡ v +ℤ to_z w64 (of_z w64 (to_z w64 per -ℤ pos 1)) → upper_kw per r ≡ lower_kw per v
raised per v r d e = ap (upper_kw per) (e ∙ ap (λ (z : ℤ). v +ℤ z) (less per d)) ∙ lower_raised per d.some v

pub upper_kw-requires : goal.upper_kw-requires
upper_kw-requires c =
    let e = rw (c.from.ensures) at c.plus-raised.ensures in
    rw (raised _ _ _ c.args.per.divides e) c.requires

pub returns : goal.returns
returns c =
    let e = rw (c.from.ensures) at c.plus-raised.ensures in
    c.upper_kw.ensures ∙ raised _ _ _ c.args.per.divides e
