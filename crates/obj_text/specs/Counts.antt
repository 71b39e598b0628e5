-- How many vertices a drawing has. What its text is doesn't rest on this: laws and inner contracts do. Definitions only.
use Rattle.std.specs.Prelude.{ℕ, ◌+◌, List, [], ◌∷◌, length}
use Rattle.strip.specs.Cell.{NavPoly}

-- those of all polygons
unfoldable pub vertex_count : List NavPoly → ℕ
vertex_count [] = 0
vertex_count (p ∷ ps) = length p.vertices + vertex_count ps
