-- The numbering over one slice: the numbers in front, the table as its tail.
use Prim.Native.Nat.{ℕ, ◌+◌, ◌*◌, ◌-◌, ◌≤◌}
use native.Mathlib.Omega.{arith}
use mathlib.Core.Path.{◌≡◌, ap, sym, ◌∙◌}
use mathlib.Core.List.{List, append-nil}
use lib.ListN.{length, take, drop, length-drop}
use lib.Seq.{drop-drop, slice_empty}
use borrow.Rule.Slice.PartMut.{put_mid}
use Rattle.write_vertices.specs.Table.{cleared}
use Rattle.write_vertex_numbers.specs.Numbers.{InWork}
use Rattle.std.specs.Prelude.{Result}
use Rattle.strip.specs.declared.Refusal.{Refusal}
use Rattle.write_vertex_numbers.proofs.Numbering.{AllNumbered, uncleared}
use Rattle.fields.proofs.Puts.{lent}
use Rattle.write_vertex_numbers.proofs.Parts.{back_take, back_drop}

-- numbers and table apart, as one slice
pub in_work : (xs : List ℕ) (m b : ℕ) (w w' : List ℕ) (r : Result ℕ Refusal) → AllNumbered xs m b (drop m w) (drop m w') (take m w) (take m w') r → InWork xs m b w w' r
in_work xs m b w w' r a = record {
  answer = a.answer;
  numbered = λ n e. ((a.numbered n e).0, (a.numbered n e).1 ∙ rw (slice_empty m w, append-nil));
  rest = sym (drop-drop (b + 2 * m) m w') ∙ a.rest ∙ drop-drop (b + 2 * m) m w;
}

-- the tail was cleared first
module _ (m b : ℕ) (w : List ℕ) (h : m ≤ length w) (e : List ℕ) (l : length e ≡ length (take (length w - m) (drop m w))) (ec : e ≡ cleared (take (length w - m) (drop m w)) b) where
  pub tail_cleared : drop m (put_mid m (length w - m) w e) ≡ cleared (drop m w) b
  tail_cleared = back_drop m w h e l ∙ ec ∙ ap (λ (z : List ℕ). cleared z b) (lent m w)

  pub finish : b + m ≤ length w → (xs w' : List ℕ) (r : Result ℕ Refusal)
      → AllNumbered xs m b (drop m (put_mid m (length w - m) w e)) (drop m w') (take m (put_mid m (length w - m) w e)) (take m w') r
      → InWork xs m b w w' r
  finish room xs w' r a = in_work xs m b w w' r (rw (back_take m w h e l) at (uncleared (drop m w) _ (omega (arith, length-drop m w)) tail_cleared a))
