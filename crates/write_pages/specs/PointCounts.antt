-- How many of a cell's points are stored and how many are dropped. Document 02, No. 2. Definitions only.
use Rattle.std.specs.Prelude.{ℕ, Bool, true, false, cond, List, [], ◌∷◌, length}
use Rattle.math.specs.declared.vec3.Vec3.{Vec3 as Floats}
use Rattle.quarters.specs.declared.bounds.Aabb.{Aabb}
use Rattle.strip.specs.Cell.{NavPoint, Cell}
use Rattle.write_pages.specs.Items.{floats}
use Rattle.write_pages.specs.Sectors.{leaves, depth_of, root_box, inside, point_count}
use Rattle.write_pages.specs.Pages.{sectors}

-- the boxes of a cell's leaves, in writing order
abbrev pub leaf_boxes : Cell → List Aabb
leaf_boxes c = leaves (depth_of c.head.content) (root_box c.head)

-- "Stored is the sum over leaves": of the points that each stores
abbrev pub stored_count : Cell → ℕ
stored_count c = point_count (sectors c)

-- "the points whose position lies in no leaf"
unfoldable pub in_none : List Aabb → Floats → Bool
in_none [] p = true
in_none (b ∷ bs) p = cond (inside b p) false (in_none bs p)

unfoldable pub outside_of : List Aabb → List NavPoint → List NavPoint
outside_of boxes [] = []
outside_of boxes (t ∷ ts) = cond (in_none boxes (floats t.position)) (t ∷ outside_of boxes ts) (outside_of boxes ts)

unfoldable pub dropped : Cell → List NavPoint
dropped c = outside_of (leaf_boxes c) c.points

-- "dropped counts" them
abbrev pub dropped_count : Cell → ℕ
dropped_count c = length (dropped c)
