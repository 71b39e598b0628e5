-- What filling the pages behind the lists asks for and leaves: where the layout stands behind each part, the bytes that are laid out, and the addresses of
-- all parts. Definitions only.
use Rattle.std.specs.Prelude.{ℕ, ◌*◌, ◌^◌, ◌≤◌, ◌<◌, ◌≡◌, List, ◌++◌, length}
use Rattle.fields.specs.Bytes.{les, cat}
use Rattle.fields.specs.Sizes.{list_size, portal_size, sector_size}
use Rattle.strip.specs.Cell.{Cell}
use Rattle.strip.specs.declared.Counts.{Counts}
use Rattle.write_blocks.specs.Layout.{end_of}
use Rattle.write_blocks.specs.Laid.{Laid}
use Rattle.write_blocks.specs.declared.Layout.{Layout}
use Rattle.write_blocks.specs.Optional.{block_of, size_of, address_of}
use Rattle.write_pages.specs.Sectors.{tree_blocks, point_count}
use Rattle.write_pages.specs.Pages.{Places, bb_min, bb_size, links, sectors, counts, portal_items, end_polygons, end_sectors, end_portals}
use Rattle.write_pages.specs.Accepted.{Accepted}
use Rattle.strip.specs.Laid.{Whole, cell_at}
use Rattle.write_plan.specs.Plan.{WorkHeld}
use Rattle.write_leaves.specs.declared.SectorCursor.{SectorCursor}
use Rattle.write_rest.specs.declared.ListEnds.{ListEnds}
use Rattle.write_rest.specs.declared.RestEnds.{RestEnds}

-- ---- the blocks behind the lists

module _ (c : Cell) where
  unfoldable pub rest_of : List (List ℕ)
  rest_of =
      tree_blocks (bb_min c) (bb_size c) (end_polygons (counts c) (sectors c)) 0 (sectors c)
      ++ (block_of (cat (portal_items (bb_min c) (bb_size c) c.portals))
      ++ block_of (les 2 (links c)))

-- ---- what is known of the strip s, its counts n and the words of work w when the lists are laid out

pub record WorkKept (s w : List ℕ) (n : Counts) : Type 0 where
  pub accepted : Accepted (cell_at s n)
  pub held : WorkHeld s n w
  pub length_is : Whole s n
  pub long : 14 ≤ length s

-- ---- steps, from the pages xs to ys. c is the strip's cell

-- the sectors, from l on
pub record SectorsFilled (c : Cell) (l : Layout) (xs ys : List ℕ) (r : SectorCursor) : Type 0 where
  pub ends : r.layout.at ≡ end_sectors (counts c) (sectors c)
  pub points : r.first ≡ point_count (sectors c)
  pub laid : Laid l (tree_blocks (bb_min c) (bb_size c) (end_polygons (counts c) (sectors c)) 0 (sectors c)) r.layout xs ys

-- sectors, portals and links
pub record RestFilled (c : Cell) (l : Layout) (xs ys : List ℕ) (r : RestEnds) : Type 0 where
  pub sectors_end : r.sectors.at ≡ end_sectors (counts c) (sectors c)
  pub portals_end : r.portals.at ≡ end_portals (counts c) (sectors c)
  pub points : r.points ≡ point_count (sectors c)
  pub laid : Laid l (rest_of c) r.links xs ys

-- ---- the header's addresses, by the layouts

abbrev pub places_by : ListEnds → RestEnds → (portals links : ℕ) → Places
places_by a b portals links = record {
  vertices = address_of a.header.at list_size;
  indices = address_of a.vertices.at list_size;
  edges = address_of a.indices.at list_size;
  polygons = address_of a.edges.at list_size;
  root = address_of a.polygons.at sector_size;
  portals = address_of b.sectors.at (portal_size * portals);
  links = address_of b.portals.at (2 * links);
}

-- each block that is named stands below 2^28, with q portals and m links
pub record Near (a : ListEnds) (b : RestEnds) (q m : ℕ) : Type 0 where
  pub vertices : end_of a.header.at (size_of list_size) < 2 ^ 28
  pub indices : end_of a.vertices.at (size_of list_size) < 2 ^ 28
  pub edges : end_of a.indices.at (size_of list_size) < 2 ^ 28
  pub polygons : end_of a.edges.at (size_of list_size) < 2 ^ 28
  pub root : end_of a.polygons.at (size_of sector_size) < 2 ^ 28
  pub portals : end_of b.sectors.at (size_of (portal_size * q)) < 2 ^ 28
  pub links : end_of b.portals.at (size_of (2 * m)) < 2 ^ 28
  pub few_portals : q ≤ 585
  pub few_links : m ≤ 8192
