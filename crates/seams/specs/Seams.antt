-- The seam count: the halves of all of a strip's edges, surplus ones too, whose area touches the cell's. Definitions only.
use Rattle.std.specs.Prelude.{ℕ, ◌+◌, List, [], ◌∷◌, Bool}
use Rattle.strip.specs.Cell.{Cell, NavEdgeEnd, NavEdge, NavPoly}
use Rattle.strip.specs.Tests.{one_if}
use Rattle.strip.specs.Scan.{scan}
use Rattle.strip.specs.Outcome.{Outcome, done}
use Rattle.strip.specs.Check.{on_cell}
use Rattle.touching.specs.Touch.{touch}

-- which halves are counted in the cell of an area
unfoldable pub counted : ℕ → NavEdgeEnd → Bool
counted own h = touch own h.area

-- how many halves pass a test, of edges and of polygons
unfoldable pub edge_count : (NavEdgeEnd → Bool) → List NavEdge → ℕ
edge_count test [] = 0
edge_count test (e ∷ es) = one_if (test e.a) + one_if (test e.b) + edge_count test es

unfoldable pub half_count : (NavEdgeEnd → Bool) → List NavPoly → ℕ
half_count test [] = 0
half_count test (p ∷ ps) = edge_count test p.edges + half_count test ps

abbrev pub seams : Cell → ℕ
seams c = half_count (counted c.head.area) c.polys

-- what `count_seams` has to decide
abbrev pub seamed : Cell → Outcome ℕ
seamed c = done (seams c) []

abbrev pub seam_outcome : List ℕ → Outcome ℕ
seam_outcome s = on_cell seamed (scan s)
