-- The closed books' seconds and a book's own on one timeline. Assumes nothing.
use Rattle.std.proofs.Common.{◌≡◌, refl, ap, ◌∙◌, Bool, true, false, cond, [], ◌∷◌, map, Option, Some, None, ℕ, ◌+◌, ◌%◌, arith, eqb, length, length-append}
use Rattle.std.proofs.lemmas.List.{length-map}
use Rattle.record.specs.declared.Record.{Record}
use Rattle.mfrr.specs.declared.Call.{Call}
use Rattle.mfrr.specs.Signal as mfrr
use Rattle.mfrr.specs.Signal.{quarter_hour}
use Rattle.mfrr.specs.State.{second_of}
use Rattle.mfrr.specs.Refusals.{rules_at}
use Rattle.mfrr.proofs.Claims as mfrr-claims
use Rattle.plant.specs.Seconds.{History, Closed, moved_on, timeline, on_timeline, mfrr_second, mfrr_past}
use Rattle.plant.specs.Refusals.{record_number_at, AcceptedAfter, AllClosed, Accepted}

-- ---- how long it is

pub timeline_length : (c : Closed) (h : History) → length (timeline (h ∷ c)) ≡ length h + length (timeline c)
timeline_length c h =
    length-append (map (moved_on (length (timeline c))) h) (timeline c)
    ∙ ap (λ (n : ℕ). n + length (timeline c)) (length-map h (moved_on (length (timeline c))))

pub past_length : (c : Closed) (h : History) → length (mfrr_past c h) ≡ length h + length (timeline c)
past_length c h = length-map (timeline (h ∷ c)) mfrr_second ∙ timeline_length c h

-- what is said of the closed books
before_all : (P : Type 0) (c : Closed) (h : History) → AcceptedAfter P c h → P
before_all P c [] a = a
before_all P c (x ∷ h) a = before_all P c h a.1

pub all_closed : (c : Closed) (h : History) → Accepted c h → AllClosed c
unfolding Accepted
all_closed c h a = before_all (AllClosed c) c h a

pub closed_whole : (c : Closed) → AllClosed c → length (timeline c) % quarter_hour ≡ 0
unfolding AllClosed
closed_whole [] a = refl
closed_whole (h ∷ c) a =
    let rest = closed_whole c (before_all (AllClosed c) c h a.1) in
    rw (timeline_length c h) (omega (arith, a.0, rest))

-- ---- what holds of nothing, of a handed-over book where it held of the closing one, and with a second more, holds of every past

module _
    (P : Closed → History → Type 0)
    (none : P [] [])
    (handed : (c : Closed) (h : History) → P c h → P (h ∷ c) [])
    (more : (c : Closed) (h : History) (x : Record) → Accepted c h → record_number_at c h x ≡ 0 → P c h → P c (x ∷ h)) where
  own : (c : Closed) → P c [] → (h : History) → Accepted c h → P c h
  unfolding Accepted
  own c p [] a = p
  own c p (x ∷ h) a = more c h x a.1 a.0 (own c p h a.1)

  closed : (c : Closed) → AllClosed c → P c []
  unfolding AllClosed Accepted
  closed [] a = none
  closed (h ∷ c) a = handed c h (own c (closed c (before_all (AllClosed c) c h a.1)) h a.1)

  pub of_every_past : (c : Closed) (h : History) → Accepted c h → P c h
  of_every_past c h a = own c (closed c (all_closed c h a)) h a

-- ---- a call on the timeline

pub moved_second : (n : ℕ) (x : Record) → mfrr_second (moved_on n x) ≡ mfrr.moved_on n (mfrr_second x)
unfolding second_of
moved_second n x = go (eqb x.call 1)
  where
    called : Bool → ℕ → Option Call
    called t D = cond t (Some (record { target = x.mfrr_target; end = D })) None

    go : (t : Bool) → second_of (called t (cond t (x.delivery_end + n) x.delivery_end)) ≡ mfrr.moved_on n (second_of (called t x.delivery_end))
    go true = refl
    go false = refl

-- 8 to 10 by the book's own count and end are those by the timeline's
pub same_rules :
    (c : Closed) (h : History) (x : Record) → AllClosed c
    → rules_at (length (mfrr_past c h)) (mfrr_past c h) (mfrr_second (on_timeline c x)) ≡ rules_at (length h) (mfrr_past c h) (mfrr_second x)
same_rules c h x a =
    let n = length (timeline c) in
    (λ i. rules_at (past_length c h i) (mfrr_past c h) (moved_second n x i))
    ∙ (mfrr-claims.claims).moved_number n (length h) (closed_whole c a) (mfrr_past c h) (mfrr_second x)
