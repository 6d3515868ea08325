-- What holds of every answer. Assumes nothing.
use Rattle.std.proofs.Common.{◌≡◌, refl, sym, ap, ◌∙◌, subst, Bool, true, false, ◌&&◌, List, ◌++◌, ℕ, zero, suc, ◌*◌, ◌<◌, T, ℤ, pos, negsuc, neg_ℤ, length, take, take-take}
use Rattle.std.specs.Int.Signed.{le_z}
use Rattle.std.proofs.Math.Seq.{take-append_seam}
use lib.Ieee.{Float}
use borrow.Author.Tests.{not-false}
use Rattle.numbers.specs.Bounds.{Within}
use Rattle.numbers.specs.Rules.{first}
use Rattle.numbers.proofs.Fit.{within_neg}
use Rattle.numbers.proofs.Rules.{both_true, none}
use Rattle.numbers.proofs.Test.{is_inside}
use Rattle.power.specs.Units.{most_deviation}
use Rattle.meters.specs.declared.Reading.{Reading}
use Rattle.meters.specs.declared.Reading.TheVariants.{Frequency, Deviation, Failed}
use Rattle.meters.specs.declared.Meter.{Meter}
use Rattle.meters.specs.Binary32.{finite, exact, hertz, nearest_whole, in_mhz}
use Rattle.meters.specs.Meters.{between, fair_reading, counting, any_usable, exact_deviation, deviation_of, most_meters, count_out, rules, refused, said_by, said_with, said_of, said_at}
use Rattle.meters.specs.Claims.{PassesThree}
use Rattle.meters.proofs.Fifty.{shifted}
use Rattle.meters.proofs.Round.{size_within, mhz_most}
use Rattle.meters.proofs.Choice.{usable_fair, counting_usable, none_or_many, count_in_lem, count_out_lem}

-- ---- refusal 3 never applies

record InFive (z : ℤ) : Type 0 where
  low : le_z (neg_ℤ (pos (hertz 5))) z ≡ true
  high : le_z z (pos (hertz 5)) ≡ true

in_between : (l h : ℤ) (x : Float) → between l h x ≡ true → (le_z l (exact x) ≡ true) × (le_z (exact x) h ≡ true)
unfolding between
in_between l h x e = both_true (le_z l (exact x)) (le_z (exact x) h) (both_true (finite x) (le_z l (exact x) && le_z (exact x) h) e).1

in_five : (r : Reading) → fair_reading r ≡ true → InFive (exact_deviation r)
unfolding fair_reading exact_deviation
in_five (Frequency f) e =
    let p = in_between (pos (hertz 45)) (pos (hertz 55)) f e in
    let s = shifted (hertz 45) (hertz 55) (hertz 50) (hertz 5) (exact f) refl refl p.0 p.1 in
    record { low = s.0; high = s.1 }
in_five (Deviation d) e =
    let p = in_between (neg_ℤ (pos (hertz 5))) (pos (hertz 5)) d e in
    record { low = p.0; high = p.1 }
in_five Failed e = absurd (subst T (sym e) tt)

within_most : (z : ℤ) → InFive z → Within most_deviation (in_mhz z)
unfolding in_mhz
within_most (pos n) h = record { within = mhz_most n (size_within false n (hertz 5) h.low h.high) }
within_most (negsuc n) h =
    within_neg most_deviation (pos (nearest_whole (suc n * 1000) (hertz 1)))
    (record { within = mhz_most (suc n) (size_within true (suc n) (hertz 5) h.low h.high) })

-- no rule applies, so the meter that counts is usable
usable_then : (n : ℕ) (ms : List Meter) → first (rules n ms) ≡ 0 → InFive (exact_deviation (counting ms).reading)
usable_then n ms e =
    in_five (counting ms).reading
    (usable_fair (counting ms) (counting_usable ms ∙ not-false (any_usable ms) (none (rules n ms) refl e).1.0))

pub passes_three : (n : ℕ) (ms : List Meter) → PassesThree (said_with n ms)
unfolding said_with
passes_three n ms = go (first (rules n ms)) refl
  where
    go : (k : ℕ) → first (rules n ms) ≡ k → PassesThree (said_by k (deviation_of (counting ms)))
    go zero e = is_inside most_deviation (deviation_of (counting ms)) (within_most (exact_deviation (counting ms).reading) (usable_then n ms e))
    go (suc k) e = tt

-- ---- any number of meters

-- what stands past the fourth place doesn't matter
pub four_places : (l : List Meter) (n : ℕ) → said_at (take most_meters l) n ≡ said_at l n
four_places l n = go (count_out n) refl
  where
    go : (t : Bool) → count_out n ≡ t → said_at (take most_meters l) n ≡ said_at l n
    go true e = sym (count_out_lem n (take n (take most_meters l)) e) ∙ count_out_lem n (take n l) e
    go false e = ap (said_with n) (take-take n most_meters l (count_in_lem n e))

pub too_many : (places : List Meter) (n : ℕ) → most_meters < n → refused 27 ≡ said_at places n
too_many places n h = count_out_lem n (take n places) (none_or_many n (λ k. h))

pub any_number : (ms others : List Meter) → said_at (take most_meters (ms ++ others)) (length ms) ≡ said_of ms
any_number ms others = four_places (ms ++ others) (length ms) ∙ ap (said_with (length ms)) (take-append_seam ms others)
