-- What the writer's first pass leaves in work behind the tables: three words to a polygon's quarter box, one to a point's leaf. Definitions only.
use Rattle.std.specs.Prelude.{ℕ, ◌+◌, ◌*◌, ◌≤◌, ◌≡◌, List, [], ◌∷◌, ◌++◌, map, length, take, drop, ltb, ℤ, Result, Ok}
use Rattle.quarters.specs.Quarter.{bits16}
use Rattle.quarters.specs.declared.quarter.QuarterBox.{QuarterBox}
use Rattle.quarters.specs.declared.bounds.Aabb.{Aabb}
use Rattle.strip.specs.Cell.{Cell, NavPoly, NavPoint}
use Rattle.strip.specs.Reading.{head_at}
use Rattle.strip.specs.Rows.{polygons_at, points_at}
use Rattle.strip.specs.Scan.{ok, scan}
use Rattle.strip.specs.Laid.{cell_counts, first_point}
use Rattle.strip.specs.declared.Counts.{Counts}
use Rattle.strip.specs.declared.Refusal.{Refusal}
use Rattle.write_pages.specs.Items.{floats, box_of, gather}
use Rattle.write_pages.specs.Sectors.{leaf_of, leaves, depth_of, root_box, leaf_counts}
use Rattle.write_pages.specs.Pages.{links, sectors}
use Rattle.write_pages.specs.Checks.{Verdict, fault_if, first_fault, at, leaves_verdict}
use Rattle.write_decide.specs.Decide.{before_leaves, on_scan, decision_then, work_places, Tabled}
use Rattle.write_decide.specs.declared.Decision.{Decision}

-- two sides in one word, the min below
abbrev pub sides : ℤ → ℤ → ℕ
sides min max = bits16 min + 65536 * bits16 max

unfoldable pub box_words : QuarterBox → List ℕ
box_words q = sides q.x_min q.x_max ∷ sides q.y_min q.y_max ∷ sides q.z_min q.z_max ∷ []

-- of all polygons
abbrev pub boxes : List NavPoly → List ℕ
boxes = gather (λ p. box_words (box_of p))

-- the leaf of each point, of leaves with these boxes
unfoldable pub leaf_words : List Aabb → List NavPoint → List ℕ
leaf_words bs ts = map (λ t. leaf_of bs (floats t.position)) ts

-- ---- of a strip s with these counts

abbrev pub points_in : List ℕ → Counts → List NavPoint
points_in s n = points_at s (first_point s n) n.points

-- what stands behind the tables
abbrev pub rest_words : List ℕ → Counts → List ℕ
rest_words s n = boxes (polygons_at s 14 n.polys) ++ leaf_words (leaves (depth_of (head_at s 0).content) (root_box (head_at s 0))) (points_in s n)

-- the words w hold it
pub record WorkHeld (s : List ℕ) (n : Counts) (w : List ℕ) : Type 0 where
  pub room : (work_places (length s) n).end ≤ length w
  pub boxes_held : take (3 * n.polys) (drop (work_places (length s) n).boxes w) ≡ boxes (polygons_at s 14 n.polys)
  pub leaves_held : take n.points (drop (work_places (length s) n).leaves w) ≡ leaf_words (leaves (depth_of (head_at s 0).content) (root_box (head_at s 0))) (points_in s n)

-- ---- the verdict

-- 17 and 18 by leaf, 19, 20, then the rest
unfoldable pub after_polygon_checks : Verdict → Cell → Verdict
after_polygon_checks rest c =
    leaves_verdict 0 (leaf_counts (sectors c)) (at 0 (first_fault (fault_if (ltb 585 (length c.portals)) 19 ∷ fault_if (ltb 8192 (length (links c))) 20 ∷ [])) rest)

-- what `plan` promises
pub record Planned (s w w' : List ℕ) (r : Result Decision Refusal) : Type 0 where
  pub verdict : (rest : Verdict) → decision_then r rest ≡ on_scan (λ c. before_leaves (length s) (length w) (after_polygon_checks rest c) c) (scan s)
  pub long : length w' ≡ length w
  pub beyond : drop (2 * length s) w' ≡ drop (2 * length s) w
  pub tabled : (d : Decision) → r ≡ Ok d → (c : Cell) → scan s ≡ ok c → Tabled (length s) c.head c.polys w' d
  pub held : (d : Decision) → r ≡ Ok d → WorkHeld s d.counts w'
  pub counts_are : (d : Decision) → r ≡ Ok d → (c : Cell) → scan s ≡ ok c → d.counts ≡ cell_counts c
