-- The text of a drawing (document 02, No. 3), from the cell alone; "portals and points are left behind". Definitions only.
use Rattle.std.specs.Prelude.{ℕ, ◌+◌, List, [], ◌∷◌, ◌++◌, length}
use Rattle.math.specs.declared.vec3.Vec3.{Vec3 as Floats}
use Rattle.strip.specs.Cell.{NavPoly, Head, Cell, each}
use Rattle.cell_record.specs.Floats.{floats}
use Rattle.obj_lines.specs.Lines.{vertex_line, consecutive, face_line}

-- "For every vertex of every polygon, in order"
abbrev pub vertex_lines : (bb-min bb-size : Floats) → NavPoly → List ℕ
vertex_lines bb-min bb-size p = each (vertex_line bb-min bb-size) p.vertices

-- "its vertex numbers, counted from 1 through the whole text": those of each polygon, where the next vertex is number `first`
unfoldable pub face_numbers : ℕ → List NavPoly → List (List ℕ)
face_numbers first [] = []
face_numbers first (p ∷ ps) = consecutive first (length p.vertices) ∷ face_numbers (first + length p.vertices) ps

-- "Then print per polygon"
abbrev pub face_lines : ℕ → List NavPoly → List ℕ
face_lines first ps = each face_line (face_numbers first ps)

unfoldable pub text_of : Head → List NavPoly → List ℕ
text_of h ps = each (vertex_lines (floats h.bb_min) (floats h.bb_size)) ps ++ face_lines 1 ps

abbrev pub obj_text : Cell → List ℕ
obj_text c = text_of c.head c.polys
