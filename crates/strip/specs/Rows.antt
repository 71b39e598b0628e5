-- Records of a strip in a row: n polygons, portals or points from a position on, and where they end. Definitions only.
use Rattle.std.specs.Prelude.{ℕ, zero, suc, ◌+◌, List}
use Rattle.strip.specs.Cell.{NavPoly, NavPortal, NavPoint}
use Rattle.strip.specs.Reading.{items_at, poly_at, polygon_at, nav_portal_at, point_at}

unfoldable pub after : (ℕ → ℕ) → ℕ → ℕ → ℕ
after next at zero = at
after next at (suc n) = after next (next at) n

abbrev pub polygons_at : List ℕ → ℕ → ℕ → List NavPoly
polygons_at s = items_at (polygon_at s) (λ at. (poly_at s at).next)

-- where n polygons from a position on end
abbrev pub after_polygons : List ℕ → ℕ → ℕ → ℕ
after_polygons s = after (λ at. (poly_at s at).next)

abbrev pub portals_at : List ℕ → ℕ → ℕ → List NavPortal
portals_at s = items_at (nav_portal_at s) (λ at. at + 11)

abbrev pub points_at : List ℕ → ℕ → ℕ → List NavPoint
points_at s = items_at (point_at s) (λ at. at + 4)
