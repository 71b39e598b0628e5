-- How many coordinates of a cell are pushed to the border of its box, by the cell alone. Document 02, No. 6: "Counted coordinate by coordinate, the sum over all
-- vertices, both portal ends and all points of the strip, dropped ones too". Definitions only.
use Rattle.std.specs.Prelude.{ℕ, ◌+◌, List, [], ◌∷◌, ◌++◌}
use Rattle.math.specs.declared.vec3.Vec3.{Vec3 as Floats}
use Rattle.quantise.specs.Short.{outside_count}
use Rattle.strip.specs.Cell.{Vec3, NavPoly, NavPortal, NavPoint, Cell}
use Rattle.cell_record.specs.Floats.{floats}

-- "Counted coordinate by coordinate, the sum over" positions, in the box of bb_min and bb_size
module _ (bb-min bb-size : Floats) where
  unfoldable pub pushed_in : List Vec3 → ℕ
  pushed_in [] = 0
  pushed_in (v ∷ vs) = outside_count (floats v) bb-min bb-size + pushed_in vs

-- "all vertices", of all polygons, as often as they stand there
unfoldable pub vertices_of : List NavPoly → List Vec3
vertices_of [] = []
vertices_of (p ∷ ps) = p.vertices ++ vertices_of ps

-- "both portal ends"
unfoldable pub ends_of : List NavPortal → List Vec3
ends_of [] = []
ends_of (p ∷ ps) = p.from ∷ p.to ∷ ends_of ps

-- "and all points of the strip, dropped ones too"
unfoldable pub places_of : List NavPoint → List Vec3
places_of [] = []
places_of (p ∷ ps) = p.position ∷ places_of ps

abbrev pub positions : Cell → List Vec3
positions c = vertices_of c.polys ++ (ends_of c.portals ++ places_of c.points)

unfoldable pub pushed : Cell → ℕ
pushed c = pushed_in (floats c.head.bb_min) (floats c.head.bb_size) (positions c)
