-- What a book holds after a past, and a book second from any book: the rules of specs/Refusals.antt and the rows of specs/Rows.antt, on what
-- the book holds.
use Rattle.std.specs.Prelude.{ℕ, zero, suc, ◌+◌, ◌*◌, ◌≡◌, List, [], ℤ, pos, ◌+ℤ◌}
use Rattle.numbers.specs.Bounds.{Within}
use Rattle.sheet.specs.declared.Sheet.{Sheet}
use Rattle.refusals.specs.Refusals as plant-answer
use Rattle.refusals.specs.Refusals.{Answer}
use Rattle.record.specs.Record.{record_of}
use Rattle.record.specs.declared.KindBits.{KindBits}
use Rattle.record.specs.declared.Record.{Record}
use Rattle.row.specs.declared.Row.{Row}
use Rattle.row.specs.declared.sums.Sums.{Sums}
use Rattle.sharing.specs.Sizes.{SizedRow}
use Rattle.plant.specs.declared.Added.{Added}
use Rattle.plant.specs.declared.PlantState.{PlantState}
use Rattle.plant.specs.State as plant
use Rattle.plant.specs.State.{PlantStep, most_added}
use Rattle.plant.specs.Refusals.{most_power}
use Rattle.book.specs.declared.Book.{Book}
use Rattle.book.specs.declared.Plant.{Plant}
use Rattle.book.specs.declared.Plant.TheVariants.{U, A, B}
use Rattle.book.specs.Answers.{BookStep, Rows, Refused, RefusedBy}
use Rattle.book.specs.Seconds.{BookSecond, History, Closed, unit_bytes, a_bytes, b_bytes, past_of, closed_of, due_of}
use Rattle.book.specs.Refusals.{form_number, number_at, Accepted, grown}
use Rattle.book.specs.Rows.{values_of, unit_point, Pool, pool_a, pool_b, added_to, answer_at, says, said_at, number_in}
use Rattle.book.specs.Sums.{kw_seconds, actuals_of, open_of, sums_of, no_sums}

-- an owner byte and bytes as a book second
abbrev pub second_of : ℕ → List ℕ → BookSecond
second_of o s = record { owner = o; bytes = s }

-- ---- after a past

-- "a fresh book: no second accepted, all setpoints and limits 0, every signal resting, no leftover, the kept sums 0"; "a sheet handed over with a fresh
-- book" (02, W9)
unfoldable pub fresh : Sheet → Book
fresh sh = record { sheet = sh; unit = plant.state_of sh [] []; a = plant.state_of sh [] []; b = plant.state_of sh [] []; sums = no_sums }

-- under the sheet sh, after the closed books c and the seconds h: each plant's state is the one that its own accepted seconds leave, and the kept sums are the four
unfoldable pub state_of : Sheet → Closed → History → Book
state_of sh c h =
    record {
      sheet = sh;
      unit = plant.state_of sh (closed_of unit_bytes c) (past_of unit_bytes h);
      a = plant.state_of sh (closed_of a_bytes c) (past_of a_bytes h);
      b = plant.state_of sh (closed_of b_bytes c) (past_of b_bytes h);
      sums = sums_of sh c h;
    }

-- the step r of second s after the accepted seconds h: its answer is the one over them, and its book the one that they and, unless it is
-- refused, this second leave
pub record OverPast (sh : Sheet) (c : Closed) (h : History) (s : BookSecond) (r : BookStep) : Type 0 where
  pub said : says r.answer ≡ said_at sh c h s
  pub number : number_in r.answer ≡ number_at c h s
  pub answer : r.answer ≡ answer_at sh c h s
  pub book : r.book ≡ state_of sh c (grown c h s)
  pub stays : Accepted c (grown c h s)

-- ---- any book: what each plant answers

unfoldable pub unit_in : Book → BookSecond → PlantStep
unit_in k s = plant.step_in k.sheet k.unit (unit_bytes s.bytes) (pos 0) (pos 0)

-- a pool at the state st under the sheet sh, where u is the unit's row
unfoldable pub pool_in : Sheet → Pool → PlantState → BookSecond → Row → PlantStep
pool_in sh p st s u = plant.step_in sh st (p.bytes s.bytes) (added_to p s u) (unit_point s.bytes)

abbrev pub a_in : Book → BookSecond → Row → PlantStep
a_in k s u = pool_in k.sheet pool_a k.a s u

abbrev pub b_in : Book → BookSecond → Row → PlantStep
b_in k s u = pool_in k.sheet pool_b k.b s u

-- ---- any book: the kept sums

-- with the rows u, a and b and the due d of a second more
unfoldable pub sums_with : Sums → Row → Row → Row → ℤ → Sums
sums_with q u a b d =
    record {
      a = kw_seconds (q.a.0 +ℤ actuals_of a);
      b = kw_seconds (q.b.0 +ℤ actuals_of b);
      «open» = kw_seconds (q.«open».0 +ℤ open_of u a b);
      due = kw_seconds (q.due.0 +ℤ d);
    }

-- ---- the step

abbrev pub refused_by : Book → Plant → ℕ → BookStep
refused_by k p n = record { answer = RefusedBy p n; book = k }

-- what follows a plant's answer: a row goes on, a refusal leaves with its number
abbrev pub on_row : Answer Row → (Row → BookStep) → (ℕ → BookStep) → BookStep
on_row (plant-answer.Given r) f g = f r
on_row (plant-answer.Refused n) f g = g n

abbrev pub accepted_in : Book → BookSecond → Row → Row → Row → BookStep
accepted_in k s u a b =
    record {
      answer = Rows u a b;
      book =
          record {
            sheet = k.sheet;
            unit = (unit_in k s).state;
            a = (a_in k s u).state;
            b = (b_in k s u).state;
            sums = sums_with k.sums u a b (due_of s.bytes);
          };
    }

-- "The book second takes the unit first, then A, then B."
unfoldable pub plants_in : Book → BookSecond → BookStep
plants_in k s =
    on_row (unit_in k s).answer
    (λ u.
    on_row (a_in k s u).answer
    (λ a. on_row (b_in k s u).answer (λ b. accepted_in k s u a b) (refused_by k B))
    (refused_by k A))
    (refused_by k U)

abbrev pub step_by : ℕ → Book → BookStep → BookStep
step_by zero k given = given
step_by (suc n) k given = record { answer = Refused (suc n); book = k }

-- second s at the book k
unfoldable pub step_in : Book → BookSecond → BookStep
step_in k s = step_by (form_number s) k (plants_in k s)

-- ---- what a step asks of a book, and ensures

-- the most that a second adds to a sum, in kW
abbrev pub most_in_second : ℕ
most_in_second = 400000000

pub record SumsReady (n : ℕ) (q : Sums) : Type 0 where
  pub a : Within (n * most_in_second) q.a.0
  pub b : Within (n * most_in_second) q.b.0
  pub «open» : Within (n * most_in_second) q.«open».0
  pub due : Within (n * most_in_second) q.due.0

-- the unit's count is the book's
pub record Ready (k : Book) : Type 0 where
  pub unit : plant.Ready k.sheet k.unit
  pub a : plant.Ready k.sheet k.a
  pub b : plant.Ready k.sheet k.b
  pub sums : SumsReady k.unit.seconds k.sums

-- the book second's contract, for every book that it may be given
pub record Stepped (k : Book) (s : BookSecond) (r : BookStep) : Type 0 where
  pub is : r ≡ step_in k s
  -- where accepted seconds left the book: 01's figures or number over them, and the book that the longer list leaves
  pub past : (sh : Sheet) (c : Closed) (h : History) → Accepted c h → k ≡ state_of sh c h → OverPast sh c h s r
  -- what callers need to go on
  pub ready : Ready r.book

-- ---- what the other operations ask and answer

-- measured - working point of an accepted second at the unit, and at a pool as shared
abbrev pub most_at_unit : ℕ
most_at_unit = 2 * most_power

abbrev pub most_at_pool : ℕ
most_at_pool = most_power + most_added + 2 * most_power

-- three actual values at the unit
abbrev pub most_values : ℕ
most_values = 36000000

-- a power that is added to two others
abbrev pub most_summand : ℕ
most_summand = 100000000

-- the rows and what is due in an accepted second
pub record Summed (u a b : Row) (d : ℤ) : Type 0 where
  pub unit_sized : SizedRow most_at_unit u
  pub a_sized : SizedRow most_at_pool a
  pub b_sized : SizedRow most_at_pool b
  pub due_small : Within most_in_second d

-- the record of a plant in an accepted second
pub record PowersInRange (x : Record) : Type 0 where
  pub measured : Within most_power x.measured.0
  pub working_point_is : Within most_power x.working_point.0

-- what sharing adds for a pool that sells the kinds b at the unit, where u are the unit's bytes and r is its row
pub record AddedFor (b : KindBits) (u : List ℕ) (r : Row) (g : Added) : Type 0 where
  pub measured : g.measured.0 ≡ (record_of u).working_point.0 +ℤ values_of b r
  pub point : g.point.0 ≡ (record_of u).working_point.0

-- the plants' bytes, where s is the book second
pub record PartsOf (s u a b : List ℕ) : Type 0 where
  pub unit_part : u ≡ unit_bytes s
  pub a_part : a ≡ a_bytes s
  pub b_part : b ≡ b_bytes s

pub record PlantsStepped (k : Book) (o : ℕ) (u a b : List ℕ) (r : BookStep) : Type 0 where
  pub is : (s : List ℕ) → PartsOf s u a b → r ≡ plants_in k (second_of o s)
  pub ready : Ready r.book
