-- The halves of a polygon's edges in one row, two to an edge, as the calls go through them. Definitions only.
use Rattle.std.specs.Prelude.{ℕ, ◌+◌, ◌*◌, ◌/◌, Bool, List, [], ◌∷◌, length, ltb}
use Rattle.strip.specs.Cell.{NavEdgeEnd, NavEdge, NavPoly}
use Rattle.strip.specs.Reading.{half_at, items_at}
use Rattle.strip.specs.declared.Poly.{Poly}
use Rattle.strip_parts.specs.declared.Half.{Half}

-- a half towards an area's polygon; it is inside if its edge's number is below the vertex count, and otherwise surplus
abbrev pub half_of : Bool → NavEdgeEnd → Half
half_of inside h = record { area = h.area; poly = h.poly; inside = inside }

-- of the edges from number k on, in a polygon of so many vertices
unfoldable pub halves_from : ℕ → ℕ → List NavEdge → List Half
halves_from vertices k [] = []
halves_from vertices k (e ∷ es) = half_of (ltb k vertices) e.a ∷ half_of (ltb k vertices) e.b ∷ halves_from vertices (k + 1) es

abbrev pub halves : NavPoly → List Half
halves p = halves_from (length p.vertices) 0 p.edges

-- the i-th half of the polygon that a cursor stands at, and all that are left from the i-th on
abbrev pub half_in : List ℕ → Poly → ℕ → Half
half_in s p i = half_of (ltb (i / 2) p.vertices) (half_at s (p.edge_at + 3 * i))

abbrev pub halves_in : List ℕ → Poly → ℕ → ℕ → List Half
halves_in s p = items_at (half_in s p) (λ i. i + 1)
