-- What the writer's theorems say: when it accepts, and which refusals are named for writing. Definitions only.
use Rattle.std.specs.Prelude.{ℕ, ◌/◌, ◌^◌, ◌≤◌, ◌<◌, ◌≡◌, List, length}
use Rattle.strip.specs.Cell.{Cell}
use Rattle.strip.specs.Scan.{ok, scan}
use Rattle.write_pages.specs.Sectors.{depth_of}
use Rattle.write_pages.specs.Pages.{pages}
use Rattle.write_pages.specs.Accepted.{Accepted}
use Rattle.ynv_write.specs.declared.Written.{Written}
use Rattle.ynv_write.specs.Serialize.{written_of}

-- of a strip, with so many words of work and bytes of pages lent: it stands for a cell that passes every listed check, the work is four times the
-- strip, the pages fit, the bytes are the cell's pages, and the answer is their length, the points and what is pushed
pub record Accepts (strip : List ℕ) (work out : ℕ) (w : Written) (ps : List ℕ) : Type 0 where
  pub cell : Cell
  pub scanned : scan strip ≡ ok cell
  pub work_fits : length strip ≤ work / 4
  pub accepted : Accepted cell
  pub pages_fit : length (pages cell) ≤ out
  pub bytes : ps ≡ pages cell
  pub values_told : w ≡ written_of cell

-- The refusals that are named for writing a cell, each with its number and place: all but 3, which is the strip's.
-- The place of 12 to 16 is a polygon's number, and that of 17 and 18 a leaf's, of which there are 16, or 1 where content bit 2 is set.
pub data Named (c : Cell) : ℕ → ℕ → Type 0 where
  short_work : Named c 1 0
  endless_box : Named c 10 0
  many_polygons : Named c 11 0
  vertex_count : {p : ℕ} → p < length c.polys → Named c 12 p
  late_start : {p : ℕ} → p < length c.polys → Named c 13 p
  many_vertices : {p : ℕ} → p < length c.polys → Named c 14 p
  many_areas : {p : ℕ} → p < length c.polys → Named c 15 p
  polygon_links : {p : ℕ} → p < length c.polys → Named c 16 p
  many_ids : {l : ℕ} → l < 4 ^ depth_of c.head.content → Named c 17 l
  many_points : {l : ℕ} → l < 4 ^ depth_of c.head.content → Named c 18 l
  many_portals : Named c 19 0
  many_links : Named c 20 0
  short_pages : Named c 2 0
