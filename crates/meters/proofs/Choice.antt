-- Laws of choosing. Assumes nothing.
use Rattle.std.proofs.Common.{◌≡◌, refl, sym, ap, ◌∙◌, Bool, true, false, not, cond, ◌&&◌, ◌||◌, List, [], ◌∷◌, ℕ, ◌≤◌, ◌<◌, fold, arith, eqb, ltb, ltb-false, ne_eqb, le-ltb, pos}
use Rattle.std.specs.Int.Signed.{lt_z}
use borrow.Author.Tests.{eqb-false}
use Rattle.meters.specs.declared.Meter.{Meter}
use Rattle.numbers.proofs.Rules.{both_true}
use Rattle.numbers.proofs.Test.{tests, or_no, or_false}
use Rattle.meters.specs.Binary32.{finite, exact}
use Rattle.meters.specs.Meters.{fair_reading, fair_accuracy, usable, smaller, of_two, of_more, failed, counting, any_usable, most_meters, count_out, deviation, refused, said_with, deviation_of}

-- a usable one has a finite figure
pub usable_finite : (m : Meter) → usable m ≡ true → finite m.accuracy ≡ true
unfolding usable fair_accuracy
usable_finite m e = (both_true (finite m.accuracy) (lt_z (pos 0) (exact m.accuracy)) (both_true (fair_reading m.reading) (fair_accuracy m.accuracy) e).1).0

pub usable_fair : (m : Meter) → usable m ≡ true → fair_reading m.reading ≡ true
unfolding usable
usable_fair m e = (both_true (fair_reading m.reading) (fair_accuracy m.accuracy) e).0

-- ---- which of two counts

module _ (a b : Meter) where
  pub earlier_alone : usable b ≡ false → a ≡ of_two a b
  unfolding of_two
  earlier_alone e = rw e

  pub later_alone : usable b ≡ true → usable a ≡ false → b ≡ of_two a b
  unfolding of_two
  later_alone e f = rw (e, f)

  pub later_smaller : usable b ≡ true → usable a ≡ true → smaller b.accuracy a.accuracy ≡ true → b ≡ of_two a b
  unfolding of_two
  later_smaller e f g = rw (e, f, g)

  pub earlier_at_least : usable b ≡ true → usable a ≡ true → smaller b.accuracy a.accuracy ≡ false → a ≡ of_two a b
  unfolding of_two
  earlier_at_least e f g = rw (e, f, g)

  two_usable : usable (of_two a b) ≡ (usable a || usable b)
  unfolding of_two
  two_usable = go (usable a) (usable b) (smaller b.accuracy a.accuracy) refl refl
    where
      go : (p q r : Bool) → usable a ≡ p → usable b ≡ q → usable (cond (q && (not p || r)) b a) ≡ (p || q)
      go true true true e f = f
      go true true false e f = e
      go true false r e f = e
      go false true r e f = f
      go false false r e f = e

pub ruleset choosing = (usable_finite, earlier_alone, later_alone, later_smaller, earlier_at_least)

-- ---- of a list

or_assoc : (a b c : Bool) → ((a || b) || c) ≡ (a || (b || c))
or_assoc true b c = refl
or_assoc false b c = refl

or_none : (a : Bool) → (a || false) ≡ a
or_none true = refl
or_none false = refl

more_usable : (m : Meter) (ms : List Meter) → usable (of_more m ms) ≡ (usable m || any_usable ms)
more_usable m [] = sym (or_none (usable m))
more_usable m (n ∷ ms) = more_usable (of_two m n) ms ∙ ap (λ (t : Bool). t || any_usable ms) (two_usable m n) ∙ or_assoc (usable m) (usable n) (any_usable ms)

pub failed_unusable : usable failed ≡ false
unfolding usable fair_reading
failed_unusable = refl

-- as a fold
pub folded : (m : Meter) (ms : List Meter) → fold of_two m ms ≡ of_more m ms
folded m [] = refl
folded m (n ∷ ms) = folded (of_two m n) ms

-- the one that counts is usable where one is
pub counting_usable : (ms : List Meter) → usable (counting ms) ≡ any_usable ms
unfolding counting
counting_usable ms = more_usable failed ms ∙ ap (λ (t : Bool). t || any_usable ms) failed_unusable

-- ---- the answer: there are n meters, and ms are at hand

pub count_in_lem : (n : ℕ) → count_out n ≡ false → n ≤ most_meters
unfolding count_out
count_in_lem n e = ltb-false most_meters n (or_false (eqb n 0) (ltb most_meters n) e).1

pub few : (n : ℕ) → 1 ≤ n → n ≤ most_meters → count_out n ≡ false
unfolding count_out
few n h k = or_no (eqb n 0) (ltb most_meters n) (ne_eqb n 0 (λ z. omega arith)) (le-ltb most_meters n k)

pub none_or_many : (n : ℕ) → (1 ≤ n → most_meters < n) → count_out n ≡ true
unfolding count_out
none_or_many n h = go (eqb n 0) refl
  where
    go : (t : Bool) → eqb n 0 ≡ t → (t || ltb most_meters n) ≡ true
    go true e = refl
    go false e = let z = eqb-false n 0 e in search (tests, h (omega arith))

module _ (n : ℕ) (ms : List Meter) where
  pub count_out_lem : count_out n ≡ true → refused 27 ≡ said_with n ms
  unfolding said_with
  count_out_lem e = rw e

  module _ (few : count_out n ≡ false) where
    pub none_usable : usable (counting ms) ≡ false → refused 28 ≡ said_with n ms
    unfolding said_with
    none_usable e = rw (few, sym (counting_usable ms) ∙ e)

    pub one_counts : usable (counting ms) ≡ true → deviation (deviation_of (counting ms)) ≡ said_with n ms
    unfolding said_with
    one_counts e = rw (few, sym (counting_usable ms) ∙ e)
