-- The refusals of writing a cell, each with its number and place: all but 3, which is the strip's. Assumes nothing.
use Prim.Native.Nat.{ℕ, zero, suc, ◌+◌, ◌/◌, ◌^◌, ◌<◌}
use native.Mathlib.Omega.{arith}
use mathlib.Core.Path.{◌≡◌}
use mathlib.Core.Bool.{Bool, true, false, not, ◌||◌}
use mathlib.Core.List.{List, [], ◌∷◌}
use lib.ListN.{length}
use lib.Dec.{ltb}
use Rattle.math.specs.declared.vec3.Vec3.{Vec3 as Floats}
use Rattle.strip.specs.Cell.{NavPoly, Cell}
use Rattle.strip.specs.Fits.{All}
use Rattle.strip.specs.Box.{finite_box}
use Rattle.distinct.specs.Distinct.{with_new, distinct_from}
use Rattle.areas.specs.Areas.{seeded}
use Rattle.write_pages.specs.Items.{Corner, corners_in, triples, named}
use Rattle.write_pages.specs.Sectors.{leaf_counts, depth_of}
use Rattle.write_pages.specs.Pages.{bb_min, bb_size, links, sectors, pages}
use Rattle.write_pages.specs.Checks.{Verdict, fine, refused, fault_if, first_fault, at, corner_fault, corners_fault, polygon_fault, polygons_verdict, leaf_fault, leaves_verdict, cell_verdict}
use Rattle.write_pages.proofs.LeafCounts.{cell_leaves}
use Rattle.ynv_write.specs.Theorems.{Named, short_work, endless_box, many_polygons, vertex_count, late_start, many_vertices, many_areas, polygon_links, many_ids, many_points, many_portals, many_links, short_pages}

pub above_zero : {c : Cell} {number place : ℕ} → Named c number place → 0 < number
above_zero short_work = omega arith
above_zero endless_box = omega arith
above_zero many_polygons = omega arith
above_zero (vertex_count h) = omega arith
above_zero (late_start h) = omega arith
above_zero (many_vertices h) = omega arith
above_zero (many_areas h) = omega arith
above_zero (polygon_links h) = omega arith
above_zero (many_ids h) = omega arith
above_zero (many_points h) = omega arith
above_zero many_portals = omega arith
above_zero many_links = omega arith
above_zero short_pages = omega arith

-- ---- faults: none, or one of those that P names

abbrev OrNone : (ℕ → Type 0) → ℕ → Type 0
OrNone P zero = Unit
OrNone P (suc n) = P (suc n)

first_named : (P : ℕ → Type 0) (ns : List ℕ) → All (OrNone P) ns → OrNone P (first_fault ns)
unfolding first_fault
first_named P [] h = tt
first_named P (zero ∷ ns) h = first_named P ns h.1
first_named P (suc n ∷ ns) h = h.0

module _ (c : Cell) where
  abbrev pub AsNamed : Verdict → Type 0
  AsNamed fine = Unit
  AsNamed (refused number place) = Named c number place

  -- the faults that are named at a place
  abbrev At : ℕ → ℕ → Type 0
  At place number = Named c number place

  when_named : {place : ℕ} (bad : Bool) (n : ℕ) → Named c (suc n) place → OrNone (At place) (fault_if bad (suc n))
  when_named true n h = h
  when_named false n h = tt

  at_named : (place fault : ℕ) (rest : Verdict) → OrNone (At place) fault → AsNamed rest → AsNamed (at place fault rest)
  unfolding at
  at_named place zero rest h k = k
  at_named place (suc n) rest h k = h

  -- ---- polygons

  corner_named : (ts us : List ℕ) (k : Corner) (p : ℕ) → p < length c.polys → OrNone (At p) (corner_fault ts us k)
  unfolding corner_fault
  corner_named ts us k p h =
      let vs = with_new us k.edge.a.area in
      first_named (At p) _ (
        when_named (ltb 65536 (length (with_new ts k.vertex))) 13 (many_vertices h),
        (
          when_named (ltb 32 (length vs)) 14 (many_areas h),
          (when_named (ltb 32 (length (with_new vs k.edge.b.area))) 14 (many_areas h), tt),
        ),
      )

  corners_named : (ts us : List ℕ) (ks : List Corner) (p : ℕ) → p < length c.polys → OrNone (At p) (corners_fault ts us ks)
  unfolding corners_fault
  corners_named ts us [] p h = tt
  corners_named ts us (k ∷ ks) p h = first_named (At p) _ (corner_named ts us k p h, (corners_named (with_new ts k.vertex) (with_new (with_new us k.edge.a.area) k.edge.b.area) ks p h, tt))

  module _ (bb-min bb-size : Floats) where
    polygon_named : (ts us : List ℕ) (start p : ℕ) (q : NavPoly) → p < length c.polys → OrNone (At p) (polygon_fault bb-min bb-size ts us start q)
    unfolding polygon_fault
    polygon_named ts us start p q h =
        first_named (At p) _ (
          when_named (ltb (length q.vertices) 3 || ltb 2047 (length q.vertices)) 11 (vertex_count h),
          (
            when_named (ltb 65535 start) 12 (late_start h),
            (
              corners_named ts us (corners_in bb-min bb-size q) p h,
              (when_named (ltb 7 (length q.links)) 15 (polygon_links h), tt),
            ),
          ),
        )

    polygons_named : (ts us : List ℕ) (start p : ℕ) (qs : List NavPoly) (rest : Verdict) → p + length qs ≡ length c.polys → AsNamed rest
        → AsNamed (polygons_verdict bb-min bb-size ts us start p qs rest)
    unfolding polygons_verdict
    polygons_named ts us start p [] rest e k = k
    polygons_named ts us start p (q ∷ qs) rest e k =
        let ks = corners_in bb-min bb-size q in
        at_named p _ _ (polygon_named ts us start p q (omega arith))
        (polygons_named (distinct_from ts (triples ks)) (distinct_from us (named ks)) (start + length q.vertices) (p + 1) qs rest (omega arith) k)

  -- ---- leaves

  leaf_named : (l : ℕ) (n : ℕ × ℕ) → l < 4 ^ depth_of c.head.content → OrNone (At l) (leaf_fault n)
  leaf_named l n h = first_named (At l) _ (when_named (ltb 8192 n.0) 16 (many_ids h), (when_named (ltb 2048 n.1) 17 (many_points h), tt))

  leaves_named : (l : ℕ) (ns : List (ℕ × ℕ)) (rest : Verdict) → l + length ns ≡ 4 ^ depth_of c.head.content → AsNamed rest → AsNamed (leaves_verdict l ns rest)
  unfolding leaves_verdict
  leaves_named l [] rest e k = k
  leaves_named l (n ∷ ns) rest e k = at_named l _ _ (leaf_named l n (omega arith)) (leaves_named (l + 1) ns rest (omega arith) k)

  -- ---- all of them

  pub cell_named : (words work out : ℕ) → AsNamed (cell_verdict words work out c)
  unfolding cell_verdict
  cell_named words work out =
      at_named 0 _ _
      (first_named (At 0) _
      (when_named (ltb (work / 4) words) 0 short_work, (when_named (not (finite_box c.head)) 9 endless_box, (when_named (ltb 16383 (length c.polys)) 10 many_polygons, tt))))
      (polygons_named (bb_min c) (bb_size c) [] (seeded c.head.area) 0 0 c.polys _ (omega arith)
      (leaves_named 0 (leaf_counts (sectors c)) _ (omega (arith, cell_leaves c))
      (at_named 0 _ _
      (first_named (At 0) _
      (when_named (ltb 585 (length c.portals)) 18 many_portals, (when_named (ltb 8192 (length (links c))) 19 many_links, (when_named (ltb out (length (pages c))) 1 short_pages, tt))))
      tt)))
