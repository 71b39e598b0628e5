-- Counts that stop at the last number, and how many vertices there are at most. Assumes nothing.
use mathlib.Core.Path.{◌≡◌, refl}
use mathlib.Core.List.{List}
use Prim.Native.Nat.{ℕ, zero, suc, ◌+◌, ◌*◌, ◌≤◌, ◌<◌, min}
use native.Mathlib.Omega.{arith}
use Rattle.strip.specs.Reading.{layout, items_at, poly_at}
use Rattle.strip.specs.Rows.{after, polygons_at, after_polygons}
use Rattle.strip.specs.declared.Poly.{Poly}
use Rattle.strip.proofs.Steps.{parts}
use Rattle.strip.proofs.Lengths.{vertex_count_lem}
use Rattle.obj_length.specs.Last.{last}
use Rattle.obj_text.specs.Counts.{vertex_count}

-- a turn counts the first part of the rest
pub counts_on : (to first rest : ℕ) {all next : ℕ} → next ≡ min (to + first) last → min (to + (first + rest)) last ≡ all → min (next + rest) last ≡ all
counts_on to first rest e h = omega arith

-- a sum of counts that stop
pub both : (a b : ℕ) {x y r : ℕ} → x ≡ min a last → y ≡ min b last → r ≡ min (x + y) last → r ≡ min (a + b) last
both a b e f g = omega arith

pub and_more : (a n : ℕ) {x r : ℕ} → x ≡ min a last → r ≡ min (x + n) last → r ≡ min (a + n) last
and_more a n e g = omega arith

-- of a polygon, by the bits of its count; and of all, by the words that they take
pub few_vertices : (s : List ℕ) (at : ℕ) (p : Poly) → p ≡ poly_at s at → p.vertices < 4096
unfolding poly_at layout
few_vertices s at p e = rw e (omega arith)

pub vertices_inside : (s : List ℕ) (n at : ℕ) → at + 3 * vertex_count (polygons_at s at n) ≤ after_polygons s at n
unfolding items_at after vertex_count
vertices_inside s zero at = omega arith
vertices_inside s (suc n) at =
    let p = poly_at s at in
    omega (arith, vertex_count_lem s p, parts s at p refl, vertices_inside s n p.next)
