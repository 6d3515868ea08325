-- Values at the edges of a plant's rules and figures, so that a fault in definition and code alike is refused. The proof is `values` of
-- proofs/Values.antt.
use Rattle.std.specs.Prelude.{◌≡◌, Bool, true, false, Some, None, List, [], ◌∷◌, map, ℕ, ℤ, pos, negsuc, neg_ℤ, replicate}
use Rattle.numbers.specs.Rules.{refuse, first}
use Rattle.power.specs.declared.limits.Band.{Band}
use Rattle.power.specs.Units.{kw}
use Rattle.record.specs.declared.KindBits.{KindBits}
use Rattle.record.specs.declared.Record.{Record}
use Rattle.row.specs.declared.Rounding.{Rounding}
use Rattle.row.specs.declared.KindRow.{KindRow}
use Rattle.sharing.specs.declared.kinds.Kinds.{Kinds}
use Rattle.sharing.specs.Rows.{Kind}
use Rattle.plant.specs.declared.Setpoints.{Setpoints}
use Rattle.mfrr.specs.Signal.{quiet}
use Rattle.plant.specs.Seconds.{moved_on, mfrr_second, afrr_second, setpoints_with, setpoints_at}
use Rattle.plant.specs.Refusals.{record_number, off_number, rules_with, record_number_at, length_rule, number_at}
use Rattle.plant.specs.Rows.{kinds_with, shared_difference, figures_of}

-- ---- records

abbrev fields : ℤ → ℤ → ℤ → ℤ → ℤ → ℤ → ℤ → ℕ → ℤ → ℕ → ℕ → Record
fields measured point held up down setpoint target end deviation status call =
    record {
      measured = kw measured;
      working_point = kw point;
      fcr_held = kw held;
      afrr_up = kw up;
      afrr_down = kw down;
      afrr_setpoint = kw setpoint;
      mfrr_target = kw target;
      delivery_end = end;
      deviation = record { 0 = deviation };
      status = status;
      call = call;
    }

-- all 0 but measured and working point, the held powers of FCR and of aFRR up and down, ..
abbrev pub powers : ℤ → ℤ → Record
powers m w = fields m w (pos 0) (pos 0) (pos 0) (pos 0) (pos 0) 0 (pos 0) 0 0

abbrev pub held : ℤ → ℤ → ℤ → Record
held f u d = fields (pos 0) (pos 0) f u d (pos 0) (pos 0) 0 (pos 0) 0 0

abbrev pub deviating : ℤ → Record
deviating f = fields (pos 0) (pos 0) (pos 0) (pos 0) (pos 0) (pos 0) (pos 0) 0 f 0 0

abbrev pub afrr_at : ℤ → Record
afrr_at s = fields (pos 0) (pos 0) (pos 0) (pos 0) (pos 0) s (pos 0) 0 (pos 0) 0 0

abbrev pub in_status : ℕ → Record
in_status n = fields (pos 0) (pos 0) (pos 0) (pos 0) (pos 0) (pos 0) (pos 0) 0 (pos 0) n 0

-- call byte, target and end
abbrev pub calling : ℕ → ℤ → ℕ → Record
calling c e D = fields (pos 0) (pos 0) (pos 0) (pos 0) (pos 0) (pos 0) e D (pos 0) 0 c

-- the numbers of records of these statuses, at second t after the status `last`
abbrev pub statuses : ℕ → ℕ → List ℕ → List ℕ
statuses t last ns = map (λ (n : ℕ). record_number t last (in_status n)) ns

-- a quarter hour with no kind on
abbrev pub quarter : List Record
quarter = replicate 900 (in_status 0)

-- every rule from 2 on applies; all but 2, ..
abbrev million : ℤ
million = pos 1000001

abbrev pub broken : ℤ → ℤ → ℤ → ℤ → ℕ → Record
broken h f m s n = fields m (pos 0) h (pos 0) (pos 0) s million 0 f n 2

-- ---- kinds

abbrev bits : Bool → Bool → Bool → KindBits
bits f a m = record { fcr = f; afrr = a; mfrr = m }

abbrev setpoints : ℤ → ℤ → ℤ → Setpoints
setpoints f a m = record { fcr = kw f; afrr = kw a; mfrr = kw m }

abbrev band : ℤ → ℤ → Band
band low high = record { low = kw low; high = kw high }

abbrev kind_row : ℤ → ℤ → ℤ → ℤ → ℤ → Rounding → KindRow
kind_row s low high share actual r = record { setpoint = kw s; band = band low high; share = kw share; actual = kw actual; rounding = r }

abbrev rounding : ℕ → ℕ → ℕ → ℕ → Rounding
rounding t f r x = record { tolerance = t; floor = f; remainder = r; extra = x }

-- the kinds of a second of status n: setpoints 1, 2 and 3, bands 4 to 5, 6 to 7 and 8 to 9
abbrev pub kinds_in : ℕ → Kinds
kinds_in n = kinds_with (in_status n) (setpoints (pos 1) (pos 2) (pos 3)) (band (pos 4) (pos 5)) (band (pos 6) (pos 7)) (band (pos 8) (pos 9))

-- a kind on; of one off setpoint and band are not even kept
abbrev kind : ℤ → ℤ → ℤ → Kind
kind s low high = Some (record { setpoint = kw s; band = band low high })

abbrev kinds : Kind → Kind → Kind → Kinds
kinds f a m = record { fcr = f; afrr = a; mfrr = m }

pub record Values : Type 0 where
  -- ---- the ends of each range (01, "When a book is turned down")
  pub one : map (λ (t : ℕ). record_number t 0 (in_status 0)) (89999 ∷ 90000 ∷ []) ≡ 0 ∷ 1 ∷ []
  pub two :
      map (record_number 0 0)
      (held (pos 1000000) (pos 1000000) (pos 1000000)
      ∷ held million (pos 0) (pos 0)
      ∷ held (pos 0) million (pos 0)
      ∷ held (pos 0) (pos 0) million
      ∷ held (negsuc 0) (pos 0) (pos 0)
      ∷ held (pos 0) (negsuc 0) (pos 0)
      ∷ held (pos 0) (pos 0) (negsuc 0)
      ∷ [])
      ≡ 0 ∷ 2 ∷ 2 ∷ 2 ∷ 2 ∷ 2 ∷ 2 ∷ []
  pub three : map (λ (f : ℤ). record_number 0 0 (deviating f)) (pos 5000 ∷ neg_ℤ (pos 5000) ∷ pos 5001 ∷ neg_ℤ (pos 5001) ∷ []) ≡ 0 ∷ 0 ∷ 3 ∷ 3 ∷ []
  pub four :
      map (record_number 0 0)
      (powers (pos 4000000) (neg_ℤ (pos 4000000))
      ∷ powers (neg_ℤ (pos 4000000)) (pos 4000000)
      ∷ powers (pos 4000001) (pos 0)
      ∷ powers (neg_ℤ (pos 4000001)) (pos 0)
      ∷ powers (pos 0) (pos 4000001)
      ∷ powers (pos 0) (neg_ℤ (pos 4000001))
      ∷ [])
      ≡ 0 ∷ 0 ∷ 4 ∷ 4 ∷ 4 ∷ 4 ∷ []
  pub five : map (λ (s : ℤ). record_number 0 0 (afrr_at s)) (pos 1000000 ∷ neg_ℤ (pos 1000000) ∷ million ∷ neg_ℤ million ∷ []) ≡ 0 ∷ 0 ∷ 5 ∷ 5 ∷ []
  pub six : map (λ (n : ℕ). record_number 0 0 (in_status n)) (15 ∷ 16 ∷ []) ≡ 0 ∷ 6 ∷ []
  -- 26, by the last status: off the quarter hours no kind goes on, with a fault or without; one goes off under this second's fault alone; bit 3 may
  -- change at any second
  pub twenty_six_on : statuses 1 0 (0 ∷ 1 ∷ 2 ∷ 4 ∷ 8 ∷ 9 ∷ 10 ∷ 12 ∷ []) ≡ 0 ∷ 26 ∷ 26 ∷ 26 ∷ 0 ∷ 26 ∷ 26 ∷ 26 ∷ []
  pub twenty_six_off : statuses 1 7 (7 ∷ 6 ∷ 5 ∷ 3 ∷ 15 ∷ 14 ∷ 13 ∷ 11 ∷ 8 ∷ []) ≡ 0 ∷ 26 ∷ 26 ∷ 26 ∷ 0 ∷ 0 ∷ 0 ∷ 0 ∷ 0 ∷ []
  pub twenty_six_both : statuses 1 1 (2 ∷ 10 ∷ []) ≡ 26 ∷ 26 ∷ []
  pub earlier_fault : statuses 1 15 (7 ∷ 0 ∷ 8 ∷ []) ≡ 0 ∷ 26 ∷ 0 ∷ []
  -- at the multiples every change is free
  pub quarter_hours : map (λ (t : ℕ). record_number t 0 (in_status 7)) (0 ∷ 1 ∷ 899 ∷ 900 ∷ 901 ∷ 1800 ∷ []) ≡ 0 ∷ 26 ∷ 26 ∷ 0 ∷ 26 ∷ 0 ∷ []
  -- the last status is the newest accepted second's, 0 before second 0
  pub last_status_is : map (record_number_at [] (in_status 1 ∷ [])) (in_status 1 ∷ in_status 0 ∷ in_status 8 ∷ in_status 2 ∷ []) ≡ 0 ∷ 26 ∷ 0 ∷ 26 ∷ []
  -- without a call its target and its end count for nothing
  pub no_call : mfrr_second (calling 0 (pos 9000) 900) ≡ quiet
  pub seven :
      map (record_number 0 0)
      (calling 1 (pos 1) 1 ∷ calling 2 (pos 0) 0 ∷ calling 0 (pos 1) 0 ∷ calling 0 (negsuc 0) 0 ∷ calling 0 (pos 0) 1 ∷ [])
      ≡ 0 ∷ 7 ∷ 7 ∷ 7 ∷ 7 ∷ []
  -- a kind on may have any setpoint, one off 0 alone; each kind by its own bit, with its own number
  pub all_on : off_number (bits true true true) (setpoints (pos 1) (pos 1) (pos 1)) ≡ 0
  pub off_at_0 : off_number (bits false false false) (setpoints (pos 0) (pos 0) (pos 0)) ≡ 0
  pub eleven : map (λ (s : ℤ). off_number (bits false true true) (setpoints s (pos 1) (pos 1))) (pos 1 ∷ negsuc 0 ∷ []) ≡ 11 ∷ 11 ∷ []
  pub twenty_four : map (λ (s : ℤ). off_number (bits true false true) (setpoints (pos 1) s (pos 1))) (pos 1 ∷ negsuc 0 ∷ []) ≡ 24 ∷ 24 ∷ []
  pub twenty_five : map (λ (s : ℤ). off_number (bits true true false) (setpoints (pos 1) (pos 1) s)) (pos 1 ∷ negsuc 0 ∷ []) ≡ 25 ∷ 25 ∷ []
  -- two and three at once: FCR and aFRR, FCR and mFRR, aFRR and mFRR, all
  pub several_off :
      map (λ (s : Setpoints). off_number (bits false false false) s)
      (setpoints (pos 1) (pos 1) (pos 0)
      ∷ setpoints (pos 1) (pos 0) (pos 1)
      ∷ setpoints (pos 0) (pos 1) (pos 1)
      ∷ setpoints (pos 1) (pos 1) (pos 1)
      ∷ [])
      ≡ 11 ∷ 11 ∷ 24 ∷ 11 ∷ []
  -- mFRR off: its setpoint is 0 in the second of a first call, and not in the next one, with a call or without
  pub off_at_a_call : record_number_at [] [] (calling 1 (pos 900) 1800) ≡ 0
  pub off_in_a_call : map (record_number_at [] (calling 1 (pos 900) 1800 ∷ [])) (in_status 0 ∷ calling 1 (pos 0) 1800 ∷ []) ≡ 25 ∷ 25 ∷ []
  -- after a closed book of 900 seconds: at the next one's second 0 every status is free, and an end is a multiple of 900 up to 3,600 of its own seconds; a
  -- call of the closed book goes on
  pub own_count : map (record_number_at (quarter ∷ []) []) (in_status 7 ∷ calling 1 (pos 1) 900 ∷ calling 1 (pos 1) 3600 ∷ calling 1 (pos 1) 4500 ∷ []) ≡ 0 ∷ 0 ∷ 0 ∷ 9 ∷ []
  pub goes_on : setpoints_at ((calling 1 (pos 900) 1800 ∷ replicate 899 (in_status 0)) ∷ []) [] (in_status 4) ≡ setpoints (pos 0) (pos 0) (pos 1)
  pub end_of_two_books : moved_on 900 (calling 1 (pos 1) 1800) ≡ calling 1 (pos 1) 2700
  pub quiet_stays : moved_on 900 (in_status 4) ≡ in_status 4
  pub twelve : map (λ (n : ℕ). (length_rule (replicate n 0)).applies) (35 ∷ 36 ∷ 37 ∷ []) ≡ true ∷ false ∷ true ∷ []
  -- ---- their order
  pub one_first : record_number 90000 0 (broken (negsuc 0) (pos 5001) (pos 4000001) million 16) ≡ 1
  pub in_order :
      map (record_number 0 0)
      (broken (negsuc 0) (pos 5001) (pos 4000001) million 16
      ∷ broken (pos 0) (pos 5001) (pos 4000001) million 16
      ∷ broken (pos 0) (pos 0) (pos 4000001) million 16
      ∷ broken (pos 0) (pos 0) (pos 0) million 16
      ∷ broken (pos 0) (pos 0) (pos 0) (pos 1) 16
      ∷ broken (pos 0) (pos 0) (pos 0) (pos 1) 7
      ∷ [])
      ≡ 2 ∷ 3 ∷ 4 ∷ 5 ∷ 6 ∷ 7 ∷ []
  pub six_first : record_number 1 0 (broken (pos 0) (pos 0) (pos 0) (pos 1) 17) ≡ 6
  pub twenty_six_first : record_number 1 0 (broken (pos 0) (pos 0) (pos 0) (pos 1) 7) ≡ 26
  -- 7, then mFRR's, then those of the kinds off; 12 before all
  pub groups :
      map (λ (x : Record). first (rules_with 0 0 x (refuse 8 true ∷ []) (setpoints (pos 1) (pos 0) (pos 0)))) (calling 2 (pos 0) 0 ∷ calling 1 (pos 0) 0 ∷ [])
      ≡ 7 ∷ 8 ∷ []
  pub twelve_first : number_at [] [] (replicate 35 255) ≡ 12
  -- ---- what stands where
  pub on_first : kinds_in 1 ≡ kinds (kind (pos 1) (pos 4) (pos 5)) None None
  pub on_second : kinds_in 2 ≡ kinds None (kind (pos 2) (pos 6) (pos 7)) None
  pub on_third : kinds_in 4 ≡ kinds None None (kind (pos 3) (pos 8) (pos 9))
  pub afrr_second_lem : afrr_second (fields (pos 0) (pos 0) (pos 0) (pos 1) (pos 2) (pos 3) (pos 0) 0 (pos 0) 0 0) ≡ record { setpoint = kw (pos 3); up = kw (pos 1); down = kw (pos 2) }
  pub setpoints_with_lem : setpoints_with (fields (pos 0) (pos 0) (pos 400) (pos 0) (pos 0) (pos 3) (pos 0) 0 (pos 200) 0 0) (kw (pos 5)) ≡ setpoints (neg_ℤ (pos 400)) (pos 3) (pos 5)
  pub shared : shared_difference (powers (pos 100) (pos 30)) (pos 7) (pos 2) ≡ pos 75
  pub figures :
      figures_of
      (record {
        fcr = kind_row (pos 1) (pos 2) (pos 3) (pos 4) (pos 5) (rounding 19 20 21 22);
        afrr = kind_row (pos 6) (pos 7) (pos 8) (pos 9) (pos 10) (rounding 23 24 25 26);
        mfrr = kind_row (pos 11) (pos 12) (pos 13) (pos 14) (pos 15) (rounding 27 28 29 30);
        «open» = kw (pos 16);
        error = kw (pos 17);
        total = 18;
      })
      ≡ map (λ (n : ℕ). pos n)
      (1 ∷ 2 ∷ 3 ∷ 4 ∷ 5 ∷ 6 ∷ 7 ∷ 8 ∷ 9 ∷ 10 ∷ 11 ∷ 12 ∷ 13 ∷ 14 ∷ 15 ∷ 16 ∷ 17 ∷ 18 ∷ 19 ∷ 20 ∷ 21 ∷ 22 ∷ 23 ∷ 24 ∷ 25 ∷ 26 ∷ 27 ∷ 28 ∷ 29 ∷ 30 ∷ [])
