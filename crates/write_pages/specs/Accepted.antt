-- The cells that the writer accepts: what its checks ask of a cell, apart from their order and from lent memory. Definitions only.
use Rattle.std.specs.Prelude.{ℕ, ◌+◌, ◌≤◌, ◌≡◌, true, List, [], ◌∷◌, length}
use Rattle.strip.specs.Cell.{NavPoly, Cell}
use Rattle.strip.specs.Fits.{All}
use Rattle.strip.specs.Box.{finite_box}
use Rattle.write_pages.specs.Sectors.{leaf_counts}
use Rattle.write_pages.specs.Pages.{vertices, areas, links, sectors}

-- 12, 13 and 16, of a polygon whose run begins at `start`
pub record Checked (start : ℕ) (p : NavPoly) : Type 0 where
  pub least_vertices : 3 ≤ length p.vertices
  pub most_vertices : length p.vertices ≤ 2047
  pub start_fits : start ≤ 65535
  pub few_links : length p.links ≤ 7

abbrev pub AllChecked : (start : ℕ) → List NavPoly → Type 0
AllChecked start [] = Unit
AllChecked start (p ∷ ps) = Checked start p × AllChecked (start + length p.vertices) ps

-- 17 and 18, of a leaf's counts of ids and points
pub record FewIn (n : ℕ × ℕ) : Type 0 where
  pub ids : n.0 ≤ 8192
  pub points : n.1 ≤ 2048

pub record Accepted (c : Cell) : Type 0 where
  -- 10, 11
  pub finite_box_is : finite_box c.head ≡ true
  pub few_polygons : length c.polys ≤ 16383
  pub checked : AllChecked 0 c.polys
  -- 14, 15: of the whole tables, since they only grow
  pub few_vertices : length (vertices c) ≤ 65536
  pub few_areas : length (areas c) ≤ 32
  pub leaves : All FewIn (leaf_counts (sectors c))
  -- 19, 20
  pub few_portals : length c.portals ≤ 585
  pub few_links : length (links c) ≤ 8192
