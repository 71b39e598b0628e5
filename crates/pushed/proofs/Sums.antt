-- Sums of what is pushed: over two lists one after the other, over the polygons of a cell, and as a loop goes through portals and points. Assumes nothing.
use Prim.Native.Nat.{ℕ, zero, suc, ◌+◌, ◌-◌, ◌*◌, ◌≤◌, ◌<◌}
use mathlib.Core.Path.{◌≡◌, refl}
use mathlib.Core.List.{List, [], ◌∷◌, ◌++◌}
use native.Mathlib.Omega.{arith}
use lib.ListN.{length, length-append}
use Rattle.math.specs.declared.vec3.Vec3.{Vec3 as Floats}
use Rattle.quantise.specs.Short.{outside_count}
use Rattle.quantise.proofs.Outside.{few_outside}
use Rattle.strip.specs.Cell.{Vec3}
use Rattle.strip.specs.Reading.{vec_at, vecs_at, items_at, poly_at, polygon_of, nav_portal_at, point_at, head_at}
use Rattle.strip.specs.Rows.{after, polygons_at, after_polygons, portals_at, points_at}
use Rattle.strip.specs.Laid.{first_portal, first_point, cell_at}
use Rattle.strip.specs.declared.Counts.{Counts}
use Rattle.strip.specs.declared.Poly.{Poly}
use Rattle.strip.proofs.Steps as steps
use Rattle.strip.proofs.Lengths.{vertex_count_lem}
use Rattle.cell_record.specs.Floats.{floats}
use Rattle.pushed.specs.Pushed.{pushed_in, vertices_of, ends_of, places_of, pushed}
use Rattle.pushed.specs.Steps.{with_points}

pub from_none : (n : ℕ) → n - 0 ≡ n
from_none n = omega arith

less : (n i : ℕ) → i < n → n - i ≡ suc (n - (i + 1))
less n i h = omega arith

module _ (bb-min bb-size : Floats) where
  abbrev one : Vec3 → ℕ
  one v = outside_count (floats v) bb-min bb-size

  pub pushed_append : (vs ws : List Vec3) → pushed_in bb-min bb-size (vs ++ ws) ≡ pushed_in bb-min bb-size vs + pushed_in bb-min bb-size ws
  unfolding pushed_in
  pushed_append [] ws = omega arith
  pushed_append (v ∷ vs) ws = rw (pushed_append vs ws) (omega arith)

  pub few_pushed : (vs : List Vec3) → pushed_in bb-min bb-size vs ≤ 3 * length vs
  unfolding pushed_in
  few_pushed [] = omega arith
  few_pushed (v ∷ vs) = omega (arith, few_pushed vs, few_outside (floats v) bb-min bb-size)

  module _ (s : List ℕ) (at n i : ℕ) (more : i < n) where
    -- a vertex further
    pub vertices_turn : pushed_in bb-min bb-size (vecs_at s at (n - i)) ≡ one (vec_at s at) + pushed_in bb-min bb-size (vecs_at s (at + 3) (n - (i + 1)))
    unfolding pushed_in items_at
    vertices_turn = rw (less n i more)

    -- and a polygon further
    pub polygons_turn : (p : Poly) → p ≡ poly_at s at
        → pushed_in bb-min bb-size (vertices_of (polygons_at s at (n - i))) ≡ pushed_in bb-min bb-size (polygon_of s p).vertices + pushed_in bb-min bb-size (vertices_of (polygons_at s p.next (n - (i + 1))))
    unfolding vertices_of
    polygons_turn p e =
        let rest = polygons_at s p.next (n - (i + 1)) in
        rw (steps.polygons_turn s at i n more p e) (pushed_append (polygon_of s p).vertices (vertices_of rest))

  -- so many portals, and so many behind them; and one
  ends_split : (s : List ℕ) (at k m : ℕ) → pushed_in bb-min bb-size (ends_of (portals_at s at (k + m)))
      ≡ pushed_in bb-min bb-size (ends_of (portals_at s at k)) + pushed_in bb-min bb-size (ends_of (portals_at s (at + 11 * k) m))
  unfolding pushed_in ends_of items_at
  ends_split s at zero m =
      let none : 0 + m ≡ m = omega arith in
      let here : at + 11 * 0 ≡ at = omega arith in
      rw (none, here) (omega arith)
  ends_split s at (suc k) m =
      let more : suc k + m ≡ suc (k + m) = omega arith in
      let there : at + 11 * suc k ≡ at + 11 + 11 * k = omega arith in
      rw (more, there, ends_split s (at + 11) k m) (omega arith)

  one_portal : (s : List ℕ) (at : ℕ) → pushed_in bb-min bb-size (ends_of (portals_at s at 1)) ≡ one (vec_at s (at + 2)) + (one (vec_at s (at + 5)) + 0)
  unfolding pushed_in ends_of items_at nav_portal_at
  one_portal s at = refl

  pub ends_more : (s : List ℕ) (at i : ℕ) → pushed_in bb-min bb-size (ends_of (portals_at s at (i + 1)))
      ≡ pushed_in bb-min bb-size (ends_of (portals_at s at i)) + (one (vec_at s (at + 11 * i + 2)) + one (vec_at s (at + 11 * i + 5)))
  ends_more s at i = omega (arith, ends_split s at i 1, one_portal s (at + 11 * i))

  -- the same of points
  pub places_split : (s : List ℕ) (at k m : ℕ) → pushed_in bb-min bb-size (places_of (points_at s at (k + m)))
      ≡ pushed_in bb-min bb-size (places_of (points_at s at k)) + pushed_in bb-min bb-size (places_of (points_at s (at + 4 * k) m))
  unfolding pushed_in places_of items_at
  places_split s at zero m =
      let none : 0 + m ≡ m = omega arith in
      let here : at + 4 * 0 ≡ at = omega arith in
      rw (none, here) (omega arith)
  places_split s at (suc k) m =
      let more : suc k + m ≡ suc (k + m) = omega arith in
      let there : at + 4 * suc k ≡ at + 4 + 4 * k = omega arith in
      rw (more, there, places_split s (at + 4) k m) (omega arith)

  one_point : (s : List ℕ) (at : ℕ) → pushed_in bb-min bb-size (places_of (points_at s at 1)) ≡ one (vec_at s (at + 1)) + 0
  unfolding pushed_in places_of items_at point_at
  one_point s at = refl

  pub places_more : (s : List ℕ) (at i : ℕ) → pushed_in bb-min bb-size (places_of (points_at s at (i + 1)))
      ≡ pushed_in bb-min bb-size (places_of (points_at s at i)) + one (vec_at s (at + 4 * i + 1))
  places_more s at i = omega (arith, places_split s at i 1, one_point s (at + 4 * i))

  -- none of either
  pub no_ends : (s : List ℕ) (at : ℕ) → pushed_in bb-min bb-size (ends_of (portals_at s at 0)) ≡ 0
  unfolding pushed_in ends_of items_at
  no_ends s at = refl

  pub no_places : (s : List ℕ) (at : ℕ) → pushed_in bb-min bb-size (places_of (points_at s at 0)) ≡ 0
  unfolding pushed_in places_of items_at
  no_places s at = refl

  module _ (s : List ℕ) (at n i : ℕ) (end : n ≤ i) where
    -- and none is left
    pub vertices_end : pushed_in bb-min bb-size (vecs_at s at (n - i)) ≡ 0
    unfolding pushed_in items_at
    vertices_end = let z : n - i ≡ 0 = omega arith in rw (z)

    pub polygons_end : pushed_in bb-min bb-size (vertices_of (polygons_at s at (n - i))) ≡ 0
    unfolding pushed_in vertices_of items_at
    polygons_end = let z : n - i ≡ 0 = omega arith in rw (z)

  -- what the polygons and what stands behind them make, with so many points, is the cell's
  pub pushed_cell : (s : List ℕ) (n : Counts) (points : ℕ) → bb-min ≡ floats (head_at s 0).bb_min → bb-size ≡ floats (head_at s 0).bb_size
      → pushed (with_points (cell_at s n) (points_at s (first_point s n) points)) ≡ pushed_in bb-min bb-size (vertices_of (polygons_at s 14 n.polys))
      + pushed_in bb-min bb-size (ends_of (portals_at s (first_portal s n) n.portals) ++ places_of (points_at s (first_point s n) points))
  unfolding pushed
  pushed_cell s n points e f = rw (← e, ← f) (pushed_append (vertices_of (polygons_at s 14 n.polys)) _)

  pub few_of_polygon : (s : List ℕ) (p : Poly) → pushed_in bb-min bb-size (polygon_of s p).vertices ≤ 3 * p.vertices
  few_of_polygon s p = omega (arith, few_pushed (polygon_of s p).vertices, vertex_count_lem s p)

-- three words to each vertex
vertices_in : (s : List ℕ) (n at : ℕ) → 3 * length (vertices_of (polygons_at s at n)) + at ≤ after_polygons s at n
unfolding vertices_of items_at after
vertices_in s zero at = omega arith
vertices_in s (suc n) at =
    let p = poly_at s at in
    rw (length-append (polygon_of s p).vertices (vertices_of (polygons_at s p.next n)))
    (omega (arith, vertices_in s n p.next, vertex_count_lem s p, steps.parts s at p refl))

pub few_of_vertices : (bb-min bb-size : Floats) (s : List ℕ) (n : ℕ) → pushed_in bb-min bb-size (vertices_of (polygons_at s 14 n)) ≤ after_polygons s 14 n
few_of_vertices bb-min bb-size s n = omega (arith, few_pushed bb-min bb-size (vertices_of (polygons_at s 14 n)), vertices_in s n 14)
