-- The polygons of the cell that is read again keep what they have to keep. Assumes nothing.
use mathlib.Core.Path.{◌≡◌, refl, ◌∙◌}
use mathlib.Core.List.{List, [], ◌∷◌, map}
use Prim.Native.Nat.{ℕ, zero, suc, ◌≤◌, ◌<◌}
use native.Mathlib.Omega.{arith}
use lib.ListN.{length, get_or, length-map}
use Rattle.math.specs.declared.vec3.Vec3.{Vec3 as Floats}
use Rattle.strip.specs.Cell.{Vec3, NavEdgeEnd, NavEdge, NavPoly, Cell}
use Rattle.read_grammar.specs.Polygons.{Each, none, more}
use Rattle.write_pages.specs.Items.{no_edge, corners_of, corners_in}
use Rattle.write_pages.specs.Pages.{bb_min, bb_size}
use Rattle.write_pages.specs.Reread.{half_again, edge_again, position_again, polygon_again, reread}
use Rattle.write_pages.proofs.Placed.{length_corners}
use Rattle.readback.specs.Kept.{KeptHalf, KeptEdge, PolygonKept}

kept_half : (h : NavEdgeEnd) → KeptHalf h (half_again h)
unfolding half_again
kept_half h = record { area = refl; poly = refl; unk2 = refl; unk3 = refl }

kept_edge : (e : NavEdge) → KeptEdge e (edge_again e)
unfolding edge_again
kept_edge e = record { a = kept_half e.a; b = kept_half e.b }

module _ (bb-min bb-size : Floats) where
  abbrev edges : List Vec3 → List NavEdge → List NavEdge
  edges vs es = map (λ k. edge_again k.edge) (corners_of bb-min bb-size vs es)

  kept_at : (vs : List Vec3) (es : List NavEdge) (i : ℕ) → i < length vs → i < length es → KeptEdge (get_or es i no_edge) (get_or (edges vs es) i no_edge)
  unfolding corners_of
  kept_at [] es i h k = absurd (omega arith)
  kept_at (v ∷ vs) [] i h k = absurd (omega arith)
  kept_at (v ∷ vs) (e ∷ es) zero h k = kept_edge e
  kept_at (v ∷ vs) (e ∷ es) (suc i) h k = kept_at vs es i (omega arith) (omega arith)

  missing_at : (vs : List Vec3) (es : List NavEdge) (i : ℕ) → i < length vs → length es ≤ i → get_or (edges vs es) i no_edge ≡ no_edge
  unfolding corners_of edge_again half_again
  missing_at [] es i h k = absurd (omega arith)
  missing_at (v ∷ vs) [] zero h k = refl
  missing_at (v ∷ vs) [] (suc i) h k = missing_at vs [] i (omega arith) (omega arith)
  missing_at (v ∷ vs) (e ∷ es) zero h k = absurd (omega arith)
  missing_at (v ∷ vs) (e ∷ es) (suc i) h k = missing_at vs es i (omega arith) (omega arith)

  kept : (p : NavPoly) → PolygonKept p (polygon_again bb-min bb-size p)
  unfolding polygon_again
  kept p = record {
    flags0 = refl;
    flags1 = refl;
    flags2 = refl;
    links = refl;
    vertices = length-map p.vertices (position_again bb-min bb-size);
    edges = length-map (corners_in bb-min bb-size p) (λ k. edge_again k.edge) ∙ length_corners bb-min bb-size p.vertices p.edges;
    edge = λ i h k. kept_at p.vertices p.edges i h k;
    missing = λ i h k. missing_at p.vertices p.edges i h k;
  }

  all_kept : (ps : List NavPoly) → Each PolygonKept ps (map (polygon_again bb-min bb-size) ps)
  all_kept [] = none
  all_kept (p ∷ ps) = more (kept p) (all_kept ps)

-- as many polygons, one by one
pub reread_kept : (c : Cell) → Each PolygonKept c.polys (reread c).polys
unfolding reread
reread_kept c = all_kept (bb_min c) (bb_size c) c.polys
