-- The book second plant by plant. Assumes nothing.
use Rattle.std.proofs.Common.{subst₂, ◌≡◌, refl, sym, ap, ◌∙◌, List, ℕ, ◌+◌, ◌≤◌, arith, ℤ, pos, ◌+ℤ◌}
use Rattle.numbers.specs.Bounds.{Within}
use Rattle.numbers.proofs.Fit.{fit, within_lit}
use Rattle.refusals.specs.Refusals as plant-answer
use Rattle.sheet.specs.declared.Sheet.{Sheet}
use Rattle.record.specs.declared.KindBits.{KindBits}
use Rattle.record.specs.Record.{most_seconds, record_of}
use Rattle.row.specs.declared.Row.{Row}
use Rattle.row.specs.declared.sums.Sums.{Sums}
use Rattle.sharing.specs.Sizes.{SizedRow}
use Rattle.plant.specs.declared.Added.{Added}
use Rattle.plant.specs.declared.PlantState.{PlantState}
use Rattle.plant.specs.Refusals.{most_power}
use Rattle.plant.specs.State as plant
use Rattle.plant.specs.State.{PlantStep, most_added}
use Rattle.plant.proofs.Counted as plant-counted
use Rattle.book.specs.declared.Book.{Book}
use Rattle.book.specs.declared.Plant.TheVariants.{U, A, B}
use Rattle.book.specs.Answers.{BookStep, Rows}
use Rattle.book.specs.Seconds.{due_from, due_of}
use Rattle.book.specs.Rows.{values_of, unit_point, Pool, pool_a, pool_b}
use Rattle.book.specs.State.{second_of, unit_in, pool_in, sums_with, refused_by, plants_in, most_at_unit, most_at_pool, Ready, SumsReady, PowersInRange, AddedFor, Summed, PartsOf, PlantsStepped}
use Rattle.book.proofs.Sizes.{added_small, shared_within, difference_small, sums_longer, sums_more}

-- ---- a plant's second

-- the plant at the state st gives the row r for the bytes s, with m and w added, and is at the state q then
abbrev Gives : Sheet → PlantState → List ℕ → ℤ → ℤ → Row → PlantState → Type 0
Gives sh st s m w r q = plant.Stepped sh st s m w (record { answer = plant-answer.Given r; state = q })

-- or refuses it with the number n
abbrev Refuses : Sheet → PlantState → List ℕ → ℤ → ℤ → ℕ → PlantState → Type 0
Refuses sh st s m w n q = plant.Stepped sh st s m w (record { answer = plant-answer.Refused n; state = q })

module _ {sh : Sheet} {st : PlantState} {s : List ℕ} {m w : ℤ} {r : Row} {q : PlantState} (g : Gives sh st s m w r q) where
  pub range : PowersInRange (record_of s)
  range = let f = g.facts.given refl in record { measured = f.measured; working_point_is = f.working_point_is }

  sized : (M W D : ℕ) → most_power + M + (most_power + W) ≤ D → Within M m → Within W w → SizedRow D r
  sized M W D h a b = (g.facts.given refl).sized D (shared_within M W D (record_of s) m w h range a b)

  counted : q.seconds ≡ st.seconds + 1
  counted = ap (λ (p : PlantStep). p.state.seconds) g.is ∙ plant-counted.counted sh st s m w r (sym (ap (λ (p : PlantStep). p.answer) g.is))

-- ---- the unit's

-- the working point in its bytes u
abbrev pub point : List ℕ → ℤ
point u = (record_of u).working_point.0

module _ {sh : Sheet} {st : PlantState} {u : List ℕ} {r : Row} {q : PlantState} (g : Gives sh st u (pos 0) (pos 0) r q) where
  pub point_small : Within most_power (point u)
  point_small = (range g).working_point_is

  pub unit_sized : SizedRow most_at_unit r
  unit_sized = sized g 0 0 most_at_unit (omega arith) (within_lit 0 (pos 0) tt) (within_lit 0 (pos 0) tt)

-- ---- a pool's

-- what its measured has added, where b are the kinds that it sells, u the unit's bytes and r the unit's row
abbrev pub added : KindBits → List ℕ → Row → ℤ
added b u r = point u +ℤ values_of b r

-- its second, as it is asked with what sharing adds
pub asked : {b : KindBits} {u : List ℕ} {r : Row} {g : Added} {sh : Sheet} {st : PlantState} {s : List ℕ} {p : PlantStep} → AddedFor b u r g
    → plant.Stepped sh st s g.measured.0 g.point.0 p → plant.Stepped sh st s (added b u r) (point u) p
asked {sh = sh} {st = st} {s = s} {p = p} f h = subst₂ (λ (m w : ℤ). plant.Stepped sh st s m w p) f.measured f.point h

-- ---- what `plants` is given: the book k, the owner o, and the bytes u, a and b

module _ (k : Book) (o : ℕ) (u a b : List ℕ) (ready : Ready k) where
  unit_is : {p : PlantStep} → plant.Stepped k.sheet k.unit u (pos 0) (pos 0) p → (s : List ℕ) → PartsOf s u a b → unit_in k (second_of o s) ≡ p
  unfolding unit_in
  unit_is h s parts = rw (← parts.unit_part) (sym h.is)

  pub unit_refused : {n : ℕ} {q : PlantState} → Refuses k.sheet k.unit u (pos 0) (pos 0) n q → PlantsStepped k o u a b (refused_by k U n)
  unfolding plants_in
  unit_refused h = record { is = λ s parts. rw (unit_is h s parts); ready = ready }

  -- ---- the unit gave the row r

  module _ {r : Row} {q : PlantState} (g : Gives k.sheet k.unit u (pos 0) (pos 0) r q) where
    pool_is :
        (pool : Pool) {st : PlantState} {l : List ℕ} {p : PlantStep} → plant.Stepped k.sheet st l (added (pool.sold o) u r) (point u) p → (s : List ℕ) → PartsOf s u a b → l ≡ pool.bytes s
        → pool_in k.sheet pool st (second_of o s) r ≡ p
    unfolding pool_in
    pool_is pool {st} h s parts e =
        let w : unit_point s ≡ point u = ap point (sym parts.unit_part) in
        (λ i. plant.step_in k.sheet st (sym e i) (w i +ℤ values_of (pool.sold o) r) (w i)) ∙ sym h.is

    pool_sized : (pool : Pool) {st : PlantState} {l : List ℕ} {x : Row} {y : PlantState} → Gives k.sheet st l (added (pool.sold o) u r) (point u) x y → SizedRow most_at_pool x
    pool_sized pool h = sized h most_added most_power most_at_pool (omega arith) (added_small (point u) (pool.sold o) r (point_small g) (unit_sized g)) (point_small g)

    pub a_refused : {n : ℕ} {q : PlantState} → Refuses k.sheet k.a a (added (pool_a.sold o) u r) (point u) n q → PlantsStepped k o u a b (refused_by k A n)
    unfolding plants_in
    a_refused h = record { is = λ s parts. rw (unit_is g s parts, pool_is pool_a h s parts parts.a_part); ready = ready }

    -- ---- A gave the row x

    module _ {x : Row} {qa : PlantState} (ga : Gives k.sheet k.a a (added (pool_a.sold o) u r) (point u) x qa) where
      pub b_refused : {n : ℕ} {q : PlantState} → Refuses k.sheet k.b b (added (pool_b.sold o) u r) (point u) n q → PlantsStepped k o u a b (refused_by k B n)
      unfolding plants_in
      b_refused h =
          record {
            is = λ s parts. rw (unit_is g s parts, pool_is pool_a ga s parts parts.a_part, pool_is pool_b h s parts parts.b_part);
            ready = ready;
          }

      -- ---- and B the row y, where d is due

      module _ {y : Row} {qb : PlantState} (gb : Gives k.sheet k.b b (added (pool_b.sold o) u r) (point u) y qb) {d : ℤ} (ed : d ≡ due_from u a b) where
        summed : Summed r x y d
        summed =
            record {
              unit_sized = unit_sized g;
              a_sized = pool_sized pool_a ga;
              b_sized = pool_sized pool_b gb;
              due_small =
                  let l = difference_small _ (range g) in
                  let m = difference_small _ (range ga) in
                  let n = difference_small _ (range gb) in
                  rw ed (search fit);
            }

        pub may_sum : SumsReady most_seconds k.sums × Summed r x y d
        may_sum = (sums_longer k.unit.seconds most_seconds k.sums ready.unit.count ready.sums, summed)

        abbrev rows_step : Sums → BookStep
        rows_step t = record { answer = Rows r x y; book = record { sheet = k.sheet; unit = q; a = qa; b = qb; sums = t } }

        rows_are : {t : Sums} → t ≡ sums_with k.sums r x y d → (s : List ℕ) → PartsOf s u a b → rows_step t ≡ plants_in k (second_of o s)
        unfolding plants_in due_of
        rows_are et s parts =
            rw (
              unit_is g s parts,
              pool_is pool_a ga s parts parts.a_part,
              pool_is pool_b gb s parts parts.b_part,
              ← parts.unit_part,
              ← parts.a_part,
              ← parts.b_part,
              ← ed,
              et,
            )

        pub all_rows : {t : Sums} → t ≡ sums_with k.sums r x y d → PlantsStepped k o u a b (rows_step t)
        all_rows et =
            record {
              is = rows_are et;
              ready =
                  record {
                    unit = g.facts.ready;
                    a = ga.facts.ready;
                    b = gb.facts.ready;
                    sums = rw (et, counted g) (sums_more k.unit.seconds k.sums _ _ _ d ready.sums summed);
                  };
            }
