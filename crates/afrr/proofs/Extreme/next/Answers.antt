-- The three ways on are those of the definition.
use Rattle.std.proofs.Common.{Bool, List, ℤ, is_eq, int_cmp, ◌≡◌, sym, ap, ◌∙◌, lt-ltb, le-ltb}
use Rattle.numbers.proofs.Compared.{eq_told}
use Rattle.power.specs.declared.kilowatts.Kw.{Kw}
use Rattle.power.specs.Past.{at}
use Rattle.afrr.specs.State.{is_at}
use Rattle.afrr.proofs.Extreme.next.Goals as goal

-- the setpoint that joins
abbrev new : List Kw → ℤ
new l = at l 0

-- whether it is the outer one, as the code tests it
newest_out : (l : List Kw) (v r : ℤ) {b t : Bool} → r ≡ v → b ≡ is_eq (int_cmp r (new l)) → b ≡ t → is_at (new l) v ≡ t
newest_out l v r e f g = ap (is_at (new l)) (sym e) ∙ eq_told r (new l) f g

pub returns-then-eq : goal.returns-then-eq
returns-then-eq g c = λ op is.
    let out = newest_out c.args.setpoints.now _ _ (is _ _ _ c.outer.ensures) c.eq.ensures c.if-eq.true in
    rw out

pub returns-then-self-setpoints : goal.returns-then-self-setpoints
returns-then-self-setpoints g c = λ op is.
    let out = newest_out c.args.setpoints.now _ _ (is _ _ _ c.outer.ensures) c.eq.ensures c.if-eq.false in
    rw (out, lt-ltb _ _ c.if-self-setpoints.true)

pub returns : goal.returns
returns g c = λ op is.
    let out = newest_out c.args.setpoints.now _ _ (is _ _ _ c.outer.ensures) c.eq.ensures c.if-eq.false in
    rw (out, le-ltb _ _ c.if-self-setpoints.false) (c.of.ensures op is)
