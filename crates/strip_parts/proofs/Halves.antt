-- The halves that a cursor goes through are those of the cell's polygon. Assumes nothing.
use Prim.Native.Nat.{ℕ, zero, suc, ◌+◌, ◌*◌, ◌/◌}
use mathlib.Core.Path.{◌≡◌, refl}
use mathlib.Core.List.{List}
use native.Mathlib.Omega.{arith}
use lib.Dec.{ltb}
use Rattle.strip.specs.Reading.{vec_at, half_at, edges_at, items_at, polygon_of}
use Rattle.strip_parts.specs.Halves.{half_of, halves_from, halves, half_in, halves_in}
use Rattle.strip.specs.declared.Poly.{Poly}
use Rattle.strip.proofs.Steps.{items_length}

module _ (s : List ℕ) (p : Poly) where
  -- the two halves of edge k, each by its place in the row
  first_half : (k : ℕ) → half_in s p (2 * k) ≡ half_of (ltb k p.vertices) (half_at s (p.edge_at + 6 * k))
  first_half k =
      let edge : 2 * k / 2 ≡ k = omega arith in
      let place : 3 * (2 * k) ≡ 6 * k = omega arith in
      rw (edge, place)

  second_half : (k : ℕ) → half_in s p (2 * k + 1) ≡ half_of (ltb k p.vertices) (half_at s (p.edge_at + 6 * k + 3))
  second_half k =
      let edge : (2 * k + 1) / 2 ≡ k = omega arith in
      let place : p.edge_at + 3 * (2 * k + 1) ≡ p.edge_at + 6 * k + 3 = omega arith in
      rw (edge, place)

  from_edge : (m k : ℕ) → halves_from p.vertices k (edges_at s (p.edge_at + 6 * k) m) ≡ halves_in s p (2 * k) (2 * m)
  unfolding halves_from items_at
  from_edge zero k = refl
  from_edge (suc m) k =
      let two : 2 * suc m ≡ suc (suc (2 * m)) = omega arith in
      let next : 2 * (k + 1) ≡ 2 * k + 1 + 1 = omega arith in
      let place : p.edge_at + 6 * (k + 1) ≡ p.edge_at + 6 * k + 6 = omega arith in
      let rest : halves_from p.vertices (k + 1) (edges_at s (p.edge_at + 6 * k + 6) m) ≡ halves_in s p (2 * k + 1 + 1) (2 * m) = rw (place, next) at (from_edge m (k + 1)) in
      rw (two, first_half k, second_half k, rest)

  pub halves_in_lem : halves (polygon_of s p) ≡ halves_in s p 0 (2 * p.edges)
  unfolding polygon_of
  halves_in_lem =
      let here : p.edge_at + 6 * 0 ≡ p.edge_at = omega arith in
      rw (items_length (vec_at s) (λ x. x + 3) p.vertices p.vertex_at) (rw here at (from_edge p.edges 0))
