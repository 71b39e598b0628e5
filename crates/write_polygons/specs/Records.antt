-- The polygons from a cursor on, and the items of their list. Definitions only.
use Rattle.std.specs.Prelude.{ℕ, zero, suc, ◌+◌, ◌*◌, ◌≤◌, ◌<◌, ◌≡◌, List, length, take, drop}
use Rattle.strip.specs.Reading.{poly_at, polygon_at}
use Rattle.strip.specs.Rows.{polygons_at, after_polygons}
use Rattle.strip.specs.declared.Poly.{Poly}
use Rattle.write_pages.specs.Items.{box_of, polygon_items}
use Rattle.write_plan.specs.Plan.{box_words}
use Rattle.write_polygons.specs.declared.PolyCursor.{PolyCursor}

-- the first polygon's, behind the cell's record
abbrev pub start : PolyCursor
start = record { at = 14; number = 0; start = 0; links = 0 }

-- behind the polygon p
abbrev pub following : PolyCursor → Poly → PolyCursor
following c p = record { at = p.next; number = c.number + 1; start = c.start + p.vertices; links = c.links + p.links }

-- behind m polygons of the strip s
unfoldable pub past : List ℕ → PolyCursor → ℕ → PolyCursor
past s c zero = c
past s c (suc m) = past s (following c (poly_at s c.at)) m

-- the items of m polygons from c on
abbrev pub records_at : (own : ℕ) → List ℕ → PolyCursor → ℕ → List (List ℕ)
records_at own s c m = polygon_items own c.number c.start c.links (polygons_at s c.at m)

-- m polygons stand in the strip s from c on, and their quarter boxes in the words ws
pub record Standing (s ws : List ℕ) (c : PolyCursor) (m : ℕ) : Type 0 where
  pub inside : after_polygons s c.at m ≤ length s
  pub few : c.number + c.start + c.links ≤ c.at
  pub long : 3 * (c.number + m) ≤ length ws
  pub boxed : (i : ℕ) → i < m → take 3 (drop (3 * (c.number + i)) ws) ≡ box_words (box_of (polygon_at s (after_polygons s c.at i)))
