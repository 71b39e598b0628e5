-- What the polygons that are left add to the text, by a turn of a loop over them; and how long its two halves are. Assumes nothing.
use mathlib.Core.Path.{◌≡◌}
use mathlib.Core.List.{List, [], ◌++◌}
use Prim.Native.Nat.{ℕ, ◌+◌, ◌-◌, ◌≤◌, ◌<◌}
use Rattle.math.specs.declared.vec3.Vec3.{Vec3 as Floats}
use lib.ListN.{length, length-append}
use Rattle.strip.specs.Cell.{NavPoly, Head, each}
use Rattle.strip.specs.Reading.{vecs_at, poly_at, polygon_of, polygon_at}
use Rattle.strip.specs.Rows.{polygons_at}
use Rattle.strip.specs.declared.Poly.{Poly}
use Rattle.strip.proofs.Steps.{items_done, polygons_turn}
use Rattle.strip.proofs.Lengths.{vertex_count_lem}
use Rattle.cell_record.specs.Floats.{floats}
use Rattle.obj_lines.specs.Lines.{vertex_line, consecutive, face_line}
use Rattle.obj_text.specs.Text.{vertex_lines, face_numbers, face_lines, text_of}

module _ (s : List ℕ) (at i n : ℕ) (h : i < n) (p : Poly) (e : p ≡ poly_at s at) where
  pub vertices_turn : (bb-min bb-size : Floats) → each (vertex_lines bb-min bb-size) (polygons_at s at (n - i))
      ≡ each (vertex_line bb-min bb-size) (vecs_at s p.vertex_at p.vertices) ++ each (vertex_lines bb-min bb-size) (polygons_at s p.next (n - (i + 1)))
  unfolding each polygon_of
  vertices_turn bb-min bb-size = rw (polygons_turn s at i n h p e)

  -- the next number is as much higher as there were vertices
  pub faces_turn : (k next : ℕ) → k + p.vertices ≡ next
      → face_lines k (polygons_at s at (n - i)) ≡ face_line (consecutive k p.vertices) ++ face_lines next (polygons_at s p.next (n - (i + 1)))
  unfolding each face_numbers
  faces_turn k next f = rw (polygons_turn s at i n h p e, vertex_count_lem s p, f)

pub no_polygons : (s : List ℕ) (at i n : ℕ) → n ≤ i → polygons_at s at (n - i) ≡ []
no_polygons s at i n h = items_done (polygon_at s) (λ x. (poly_at s x).next) at i n h

-- the vertices' lines, and the polygons'
pub text_length : (h : Head) (ps : List NavPoly) → length (text_of h ps) ≡ length (each (vertex_lines (floats h.bb_min) (floats h.bb_size)) ps) + length (face_lines 1 ps)
unfolding text_of
text_length h ps = length-append (each (vertex_lines (floats h.bb_min) (floats h.bb_size)) ps) (face_lines 1 ps)
