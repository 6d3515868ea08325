-- Three parts, each moved back where it stands.
use Rattle.std.proofs.Common.{◌≡◌, refl, sym, ap, ◌∙◌, ℕ, ◌*◌, List, length, take, drop, take_all, drop-drop, length-drop, arith}
use Rattle.record.specs.Record.{size, book_size}
use Rattle.book.specs.State.{PartsOf}
use Rattle.cut_run.proofs.bytes_back.Goals as goal

parts_of : {s u p a b : List ℕ} → length s ≡ book_size → u ≡ take size s → p ≡ drop size s → a ≡ take size p → b ≡ drop size p → PartsOf s u a b
parts_of {s} l u p a b =
    record {
      unit_part = u;
      a_part = a ∙ ap (take size) p;
      b_part = b ∙ ap (drop size) p ∙ drop-drop size size s ∙ sym (take_all size (drop (2 * size) s) (simp length-drop (omega arith)));
    }

pub returns : goal.returns
returns c =
    let unit = rw c.unwrap.ensures at c.split_first_chunk_mut.ensures.cases in
    let a = rw c.unwrap-2.ensures at c.split_first_chunk_mut-2.ensures.cases in
    let b = rw c.unwrap-3.ensures at c.as_mut_array.ensures.cases in
    let p = parts_of c.told-bytes unit.0 unit.1 a.0 (b.same ∙ a.1) in
    rw (c.move_back.ensures, c.move_back-2.ensures, c.move_back-3.ensures, p.unit_part, p.a_part, p.b_part) refl
