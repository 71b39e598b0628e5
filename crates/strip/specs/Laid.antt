-- The cell of a well-formed strip by its counts: where its lists begin, and what they are. Definitions only.
use Rattle.std.specs.Prelude.{ℕ, ◌+◌, ◌*◌, ◌≤◌, ◌≡◌, List, length}
use Rattle.strip.specs.Cell.{Cell}
use Rattle.strip.specs.Reading.{head_at}
use Rattle.strip.specs.Rows.{polygons_at, after_polygons, portals_at, points_at}
use Rattle.strip.specs.Scan.{Scanned, scan}
use Rattle.strip.specs.declared.Counts.{Counts}

-- how many of each a cell has
abbrev pub cell_counts : Cell → Counts
cell_counts c = record { polys = length c.polys; portals = length c.portals; points = length c.points }

-- where the portals and the points of a strip with these counts begin: polygons stand from word 14 on
abbrev pub first_portal : List ℕ → Counts → ℕ
first_portal s n = after_polygons s 14 n.polys

abbrev pub first_point : List ℕ → Counts → ℕ
first_point s n = first_portal s n + 11 * n.portals

-- nothing but the end stands behind the points
abbrev pub Whole : List ℕ → Counts → Type 0
Whole s n = length s ≡ first_point s n + 4 * n.points + 1

-- the cell that stands in a strip with these counts
abbrev pub cell_at : List ℕ → Counts → Cell
cell_at s n =
    record {
      head = head_at s 0;
      polys = polygons_at s 14 n.polys;
      portals = portals_at s (first_portal s n) n.portals;
      points = points_at s (first_point s n) n.points;
    }

-- what a pass knows of a strip that `check_strip` takes with these counts
pub record Well (s : List ℕ) (n : Counts) : Type 0 where
  pub is : scan s ≡ Scanned.ok (cell_at s n)
  pub length_is : Whole s n
  pub long : 14 ≤ length s
