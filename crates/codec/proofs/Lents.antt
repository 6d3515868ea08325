-- Putting twice is putting once. Assumes nothing.
use Rattle.std.proofs.Common.{◌≡◌, ℕ, ◌+◌, ◌≤◌, List, [], ◌++◌, length, take, refl, ◌∙◌}
use Rattle.codec.specs.declared.lent.Lent.{Lent}
use Rattle.codec.specs.Lent.{Grown}
use Rattle.codec.proofs.Puts as put

pub both : {m k : ℕ} {t u v : Lent} {x y : List ℕ} → Grown m t u x → Grown k u v y → Grown (m + k) t v (x ++ y)
both f g = record { same = g.same ∙ f.same; long = g.long ∙ f.long; put = put.both f.put g.put }

pub loosen : {m n : ℕ} {t u : Lent} {x : List ℕ} → m ≤ n → Grown m t u x → Grown n t u x
loosen h f = record { same = f.same; long = f.long; put = put.loosen h f.put }

pub none : (t : Lent) → t.at ≤ length t.buf.now → Grown 0 t t []
none t h = record { same = refl; long = refl; put = put.none t.buf.now t.at h }

-- what was put at the front stands there
pub front : {m : ℕ} {t u : Lent} {x : List ℕ} → t.at ≡ 0 → Grown m t u x → take u.at u.buf.now ≡ x
front {m} {t} {u} {x} e g = put.front (rw e at g.put)
