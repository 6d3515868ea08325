-- Every list of plant seconds from a fresh state, and every accepted second's row. Assumes nothing.
use Rattle.std.proofs.Common.{◌≡◌, refl, sym, ap, ◌∙◌, subst, Bool, true, false, not, cond, List, [], ◌∷◌, ℕ, zero, suc, ◌+◌, ◌*◌, ◌-◌, ◌%◌, ◌^◌, ◌≤◌, arith, T, leb, eqb, ℤ, pos, length, w32, SFits, Fits-le, Fits-lit}
use Rattle.refusals.specs.Refusals.{answer_number, Answer, answer_by}
use Rattle.numbers.specs.Bounds.{Within}
use mir.Val.{hbits}
use Rattle.numbers.proofs.Fit.{within_le, within_lit, fits_by}
use Rattle.power.specs.declared.limits.Limits.{Limits}
use Rattle.power.specs.Units.{most_reserve}
use Rattle.power.specs.Inward.{published_of}
use Rattle.power.proofs.Inside.{upper_within, lower_within}
use Rattle.sheet.specs.declared.Sheet.{Sheet}
use Rattle.sheet.specs.Sheet.{InRange, per_kw}
use Rattle.sheet.proofs.Sizes.{divides}
use Rattle.record.specs.declared.Record.{Record}
use Rattle.record.specs.Record.{size, record_of}
use Rattle.row.specs.declared.Rounding.{Rounding}
use Rattle.row.specs.declared.KindRow.{KindRow}
use Rattle.row.specs.declared.Row.{Row}
use Rattle.row.specs.Fits.{Rounding32, Kind32, Row32}
use Rattle.sharing.specs.Claims.{AllPublished}
use Rattle.sharing.specs.Sizes as sharing
use Rattle.sharing.proofs.Rows.{row_shared}
use Rattle.sharing.proofs.Sizes.{less, more, sized}
use Rattle.fcr.specs.State as fcr
use Rattle.fcr.proofs.Range.{setpoint_within}
use Rattle.fcr.proofs.Claims as fcr-claims
use Rattle.afrr.specs.State as afrr
use Rattle.mfrr.specs.Signal.{quarter_hour}
use Rattle.mfrr.specs.State as mfrr
use Rattle.afrr.proofs.Claims as afrr-claims
use Rattle.mfrr.proofs.Claims as mfrr-claims
use Rattle.plant.specs.Seconds.{History, Closed, on_timeline, fcr_setpoint, fcr_past, afrr_second, afrr_past, mfrr_second, mfrr_past}
use Rattle.plant.specs.Refusals.{most_power, record_number_at, number_at, AllClosed, Accepted, grown_by, grown}
use Rattle.plant.specs.Rows.{kinds_with, kinds_at, row_at, says, answer_at, shared_difference, figures_of}
use Rattle.plant.specs.State.{PlantStep, state_of, handed_over, OverPast, most_added, AddedWithin, step_in, Ready}
use Rattle.plant.specs.Run.{PlantSecond, state_after, answers, accepted, answers_over}
use Rattle.plant.specs.Claims.{kind_list, EveryList, RowHolds, Stuck, call_while_off, Claims}
use Rattle.plant.proofs.OnOff.{if_on}
use Rattle.plant.proofs.Past.{Clear, clear, ready, fcr_ranged, afrr_second_fair, afrr_fair, mfrr_accepted, over_bytes}
use Rattle.plant.proofs.Fresh.{fresh_book}
use Rattle.plant.proofs.Cut.{cut}
use Rattle.plant.proofs.TurnedDown.{same_turned_down}
use Rattle.plant.proofs.QuarterHour.{quarter_hour_lem, fault_no_kind, refuses_record, stays, call_accepted, free_again}

-- ---- one second

-- with no number there is a record, and none applies to it
pub record_number_lem : (c : Closed) (h : History) (s : List ℕ) → number_at c h s ≡ 0 → record_number_at c h (record_of s) ≡ 0
unfolding number_at record_number_at
record_number_lem c h s e = go (eqb (length s) size) e
  where
    go : (t : Bool) → cond (not t) 12 (record_number_at c h (record_of s)) ≡ 0 → record_number_at c h (record_of s) ≡ 0
    go true e = e
    go false e = absurd (omega arith)

pub still_accepted : (c : Closed) (h : History) (a : Accepted c h) (s : List ℕ) → Accepted c (grown c h s)
unfolding grown Accepted
still_accepted c h a s = go (number_at c h s) refl
  where
    go : (n : ℕ) → number_at c h s ≡ n → Accepted c (grown_by n (record_of s) h)
    go zero e = (record_number_lem c h s e, a)
    go (suc n) e = a

number_by : (n : ℕ) (r : Row) → answer_number (answer_by n r) ≡ n
number_by zero r = refl
number_by (suc n) r = refl

says_by : (n : ℕ) (r : Row) → says (answer_by n r) ≡ answer_by n (figures_of r)
says_by zero r = refl
says_by (suc n) r = refl

pub over_past : (sh : Sheet) → InRange sh → (c : Closed) (h : History) (a : Accepted c h) (s : List ℕ) (m w : ℤ) → OverPast sh c h s m w (step_in sh (state_of sh c h) s m w)
unfolding answer_at
over_past sh i c h a s m w =
    let o = over_bytes sh i c h a s m w in
    record {
      said = ap (λ (p : PlantStep). says p.answer) o ∙ says_by (number_at c h s) _;
      number = ap (λ (p : PlantStep). answer_number p.answer) o ∙ number_by (number_at c h s) _;
      answer = ap (λ (p : PlantStep). p.answer) o;
      state = ap (λ (p : PlantStep). p.state) o;
      stays = still_accepted c h a s;
    }

-- ---- a list

module _ (sh : Sheet) (i : InRange sh) (c : Closed) where
  lasts : (ss : List PlantSecond) (h : History) → Accepted c h → state_after sh (state_of sh c h) ss ≡ state_of sh c (accepted c h ss)
  unfolding state_after accepted
  lasts [] h a = refl
  lasts (s ∷ ss) h a =
      let o = over_past sh i c h a s.bytes s.added_measured s.added_point in
      rw o.state (lasts ss (grown c h s.bytes) o.stays)

  each_answer : (ss : List PlantSecond) (h : History) → Accepted c h → answers sh (state_of sh c h) ss ≡ answers_over sh c h ss
  unfolding answers answers_over
  each_answer [] h a = refl
  each_answer (s ∷ ss) h a =
      let o = over_past sh i c h a s.bytes s.added_measured s.added_point in
      rw (o.answer, o.state) (ap (λ (l : List (Answer Row)). answer_at sh c h s.bytes s.added_measured s.added_point ∷ l) (each_answer ss (grown c h s.bytes) o.stays))

  all_accepted : (ss : List PlantSecond) (h : History) → Accepted c h → Accepted c (accepted c h ss)
  unfolding accepted
  all_accepted [] h a = a
  all_accepted (s ∷ ss) h a = all_accepted ss (grown c h s.bytes) (still_accepted c h a s.bytes)

pub also_accepted : (c : Closed) (h : History) (x : Record) → record_number_at c h x ≡ 0 → Accepted c h → Accepted c (x ∷ h)
unfolding Accepted
also_accepted c h x e a = (e, a)

pub none_accepted : Accepted [] []
unfolding Accepted AllClosed
none_accepted = tt

pub lists_after : (sh : Sheet) → InRange sh → (c : Closed) (h : History) → Accepted c h → (ss : List PlantSecond) → EveryList sh c h ss
lists_after sh i c h a ss =
    let all = all_accepted sh i c ss h a in
    record {
      last = lasts sh i c ss h a;
      each = each_answer sh i c ss h a;
      accepted_all = all;
      ready = subst (Ready sh) (sym (lasts sh i c ss h a)) (ready sh i c (accepted c h ss) all);
    }

-- ---- handed over

handed_over_lem : (sh : Sheet) (c : Closed) (h : History) → handed_over (state_of sh c h) ≡ state_of sh (h ∷ c) []
unfolding state_of
handed_over_lem sh c h = refl

pub handed_accepted : (c : Closed) (h : History) → length h % quarter_hour ≡ 0 → Accepted c h → Accepted (h ∷ c) []
unfolding Accepted AllClosed
handed_accepted c h e a = (e, a)

-- ---- an accepted second's row

-- the largest measured - working point that sharing takes
abbrev most_difference : ℕ
most_difference = 2 * sharing.most_shared

-- a row that is small enough fits
small_fits : (r : Row) → sharing.SizedRow most_difference r → Row32 r
small_fits r h =
    record {
      fcr = kind r.fcr h.fcr;
      afrr = kind r.afrr h.afrr;
      mfrr = kind r.mfrr h.mfrr;
      «open» = small _ _ h.open_within tt;
      error = small _ _ h.error_within tt;
      total = Fits-le h.total_most (Fits-lit tt);
    }
  where
    small : (B : ℕ) (z : ℤ) → Within B z → T (leb B (2 ^ hbits w32 - 1)) → SFits w32 z
    small B z h t = fits_by w32 z (within_le B (2 ^ hbits w32 - 1) z h t)

    rounded : (x : Rounding) → sharing.SizedRounding most_difference x → Rounding32 x
    rounded x h =
        let most = most_difference + 3 * most_reserve in
        let f : x.floor ≤ most = omega (arith, h.whole) in
        let e : x.extra ≤ most = omega (arith, h.whole) in
        record {
          tolerance = Fits-le h.tolerance (Fits-lit tt);
          floor = Fits-le f (Fits-lit tt);
          remainder = Fits-le h.remainder (Fits-lit tt);
          extra = Fits-le e (Fits-lit tt);
        }

    kind : (k : KindRow) → sharing.SizedKindRow most_difference k → Kind32 k
    kind k h =
        record {
          setpoint = small _ _ h.setpoint tt;
          low = small _ _ h.low tt;
          high = small _ _ h.high tt;
          share = small _ _ h.share tt;
          actual = small _ _ h.actual tt;
          rounding = rounded k.rounding h.rounding;
        }

module _ (sh : Sheet) (i : InRange sh) (c : Closed) (h : History) (a : Accepted c h) (x : Record) (accepted-x : record_number_at c h x ≡ 0) where
  cleared : Clear c h x
  cleared = clear c h x accepted-x

  all_published : AllPublished (kind_list sh c h x)
  unfolding kinds_at kinds_with
  all_published =
      let p = cleared.passed_1_to_7 in (
        if_on _ _ _ _ ((fcr-claims.claims).published sh i (fcr_past c h) (fcr_setpoint x) x.fcr_held p.fcr_held_is.sign),
        (
          if_on _ _ _ _ ((afrr-claims.claims).published sh i (afrr_past c h) (afrr_second x) (afrr_second_fair (length h) x p)),
          (if_on _ _ _ _ ((mfrr-claims.claims).published sh i (mfrr_past c h) (mfrr_second (on_timeline c x))), tt),
        ),
      )

  -- a published band is as small as its limits
  band_sized : (B : ℕ) (l : Limits) → T (leb B sharing.most_limit) → Within (B * per_kw sh) l.lower.0 → Within (B * per_kw sh) l.upper.0 → Within sharing.most_limit (published_of (per_kw sh) l).low.0 × Within sharing.most_limit (published_of (per_kw sh) l).high.0
  band_sized B l t p q =
      let d = (divides sh i).some in
      (within_le B sharing.most_limit _ (lower_within (per_kw sh) d B _ p) t, within_le B sharing.most_limit _ (upper_within (per_kw sh) d B _ q) t)

  kinds_sized : sharing.SizedKinds (kinds_at sh c h x).fcr (kinds_at sh c h x).afrr (kinds_at sh c h x).mfrr
  unfolding kinds_at kinds_with
  kinds_sized =
      let p = cleared.passed_1_to_7 in
      let s = setpoint_within _ x.deviation.0 p.fcr_held_is.range in
      let fair : fcr.Fair (fcr_setpoint x) x.fcr_held = record { setpoint_range = s; held_range = p.fcr_held_is.range; held_sign = p.fcr_held_is.sign } in
      let all : afrr.AllFair (afrr_past c (x ∷ h)) = (afrr_second_fair (length h) x p, afrr_fair c h a) in
      let f = band_sized fcr.most_limit _ tt ((fcr-claims.claims).lower_small sh i (fcr_past c h) (fcr_setpoint x) x.fcr_held (fcr_ranged c h a) fair) ((fcr-claims.claims).upper_small sh i (fcr_past c h) (fcr_setpoint x) x.fcr_held (fcr_ranged c h a) fair) in
      let b = band_sized afrr.most_limit _ tt ((afrr-claims.claims).lower_small sh i (afrr_past c (x ∷ h)) all) ((afrr-claims.claims).upper_small sh i (afrr_past c (x ∷ h)) all) in
      let g = (mfrr-claims.claims).range sh i (mfrr_past c h) (mfrr_second (on_timeline c x)) (mfrr_accepted c (x ∷ h) (also_accepted c h x accepted-x a)) in
      record {
        fcr = if_on _ _ _ _ (record { setpoint = s; low = f.0; high = f.1 });
        afrr = if_on _ _ _ _ (record { setpoint = p.afrr_setpoint_is; low = b.0; high = b.1 });
        mfrr = if_on _ _ _ _ (record { setpoint = g.setpoint_range; low = within_le mfrr.most_limit sharing.most_limit _ g.small.0 tt; high = within_le mfrr.most_limit sharing.most_limit _ g.small.1 tt });
      }

  -- measured and working point, as shared
  difference_sized : (m w : ℤ) → AddedWithin m w → Within most_difference (shared_difference x m w)
  difference_sized m w d =
      let p = cleared.passed_1_to_7 in
      less sharing.most_shared sharing.most_shared most_difference _ _ (omega arith)
      (more most_power most_added sharing.most_shared _ m (omega arith) p.measured d.measured)
      (more most_power most_power sharing.most_shared _ w (omega arith) p.working_point_is d.working_point_is)

  pub row_holds : (m w : ℤ) → RowHolds sh c h x m w
  unfolding row_at
  row_holds m w =
      let k = kinds_at sh c h x in
      let r = row_shared (shared_difference x m w) k.fcr k.afrr k.mfrr in
      record {
        balance = r.balance;
        whole = r.whole;
        within = r.within all_published;
        sized = λ D d. sized D (shared_difference x m w) k.fcr k.afrr k.mfrr d kinds_sized;
      }

  pub row_fits : (m w : ℤ) → AddedWithin m w → Row32 (row_at sh c h x m w)
  row_fits m w d = small_fits _ ((row_holds m w).sized most_difference (difference_sized m w d))

-- nothing is added
pub none_added : AddedWithin (pos 0) (pos 0)
none_added = record { measured = within_lit most_added (pos 0) tt; working_point_is = within_lit most_power (pos 0) tt }

-- ---- a state that no second can leave

stuck : Stuck [] call_while_off
stuck =
    let refuses : (s : List ℕ) → number_at [] call_while_off s ≡ 0 → ⊥ = λ s e. refuses_record (record_of s) (record_number_lem [] call_while_off s e) in
    record { accepted_all = call_accepted; refuses = refuses; stays = stays [] call_while_off refuses }

-- ---- all of it

pub claims : (sh : Sheet) → InRange sh → Claims sh
claims sh i =
    record {
      every_list = lists_after sh i [] [] none_accepted;
      lists_after = lists_after sh i;
      fresh_book = fresh_book sh;
      handed_over_lem = handed_over_lem sh;
      cut = cut sh;
      over_past = λ c h a s m w. over_past sh i c h a s m w;
      row_holds = λ c h a x e m w. row_holds sh i c h a x e m w;
      fits = λ c h a x e. row_fits sh i c h a x e (pos 0) (pos 0) none_added;
      same_turned_down = same_turned_down;
      quarter_hour_lem = quarter_hour_lem sh;
      fault_no_kind = fault_no_kind;
      stuck = stuck;
      free_again = free_again;
    }
