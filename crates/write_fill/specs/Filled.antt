-- What filling the pages leaves: where the layout stands behind each list, the bytes that are laid out, and the header's counts. Definitions only.
use Rattle.std.specs.Prelude.{ℕ, ◌+◌, ◌*◌, ◌^◌, ◌≤◌, ◌<◌, ◌≡◌, List, ◌++◌, length, drop}
use Rattle.fields.specs.Put.{put}
use Rattle.strip.specs.Cell.{Cell}
use Rattle.strip.specs.declared.Counts.{Counts}
use Rattle.areas.specs.Tables.{area_ids}
use Rattle.write_blocks.specs.Laid.{empty, allocated, Laid}
use Rattle.write_blocks.specs.Lists.{list_blocks}
use Rattle.write_pages.specs.Items.{vertex_items, index_items, edge_items, polygon_items}
use Rattle.write_pages.specs.Pages as Pages
use Rattle.write_pages.specs.Pages.{all_corners, vertices, areas, sectors, counts, end_header, end_vertices, end_indices, end_edges, end_polygons, pages}
use Rattle.write_decide.specs.declared.Decision.{Decision}
use Rattle.strip.specs.Laid.{cell_at}
use Rattle.write_rest.specs.declared.ListEnds.{ListEnds}
use Rattle.write_rest.specs.Rest.{WorkKept}
use Rattle.fields.specs.Sizes.{edge_size, index_size, list_vft_edges, list_vft_indices, list_vft_polys, list_vft_vertices, navmesh_size, poly_size, portal_size, vertex_size}

-- ---- the blocks of the four lists

module _ (c : Cell) where
  unfoldable pub lists_of : List (List ℕ)
  lists_of =
      list_blocks (end_header (counts c) (sectors c)) list_vft_vertices vertex_size (vertex_items (vertices c))
      ++ (list_blocks (end_vertices (counts c) (sectors c)) list_vft_indices index_size (index_items (vertices c) (all_corners c))
      ++ (list_blocks (end_indices (counts c) (sectors c)) list_vft_edges edge_size (edge_items (areas c) (all_corners c))
      ++ list_blocks (end_edges (counts c) (sectors c)) list_vft_polys poly_size (polygon_items c.head.area 0 0 0 c.polys)))

-- ---- the lists, from the pages xs to ys. c is the cell of the strip s, with the counts n

pub record ListsFilled (c : Cell) (xs ys : List ℕ) (r : ListEnds) : Type 0 where
  pub header : r.header ≡ allocated empty navmesh_size
  pub vertices : r.vertices.at ≡ end_vertices (counts c) (sectors c)
  pub indices : r.indices.at ≡ end_indices (counts c) (sectors c)
  pub edges : r.edges.at ≡ end_edges (counts c) (sectors c)
  pub polygons : r.polygons.at ≡ end_polygons (counts c) (sectors c)
  pub laid : Laid r.header (lists_of c) r.polygons xs ys

-- how work is left, by now w', which was w: no word behind twice the strip's is changed
pub record Left (s : List ℕ) (n : Counts) (w w' : List ℕ) : Type 0 where
  pub kept : WorkKept s w' n
  pub long : length w' ≡ length w
  pub beyond : drop (2 * length s) w' ≡ drop (2 * length s) w

-- ---- the header's counts, by the decision

abbrev pub counts_by : Decision → (points bytes : ℕ) → Pages.HeaderCounts
counts_by d points bytes = record {
  vertices = d.vertices;
  indices = d.corners;
  areas = length (area_ids d.areas);
  polygons = d.counts.polys;
  points = points;
  portals = d.counts.portals;
  links = d.links;
  total = bytes + portal_size * d.counts.portals + vertex_size * d.vertices + index_size * d.corners + edge_size * d.corners + poly_size * d.counts.polys;
}

-- numbers that a word holds, with room to add them up
pub record Few (d : Decision) (b : ℕ) : Type 0 where
  pub vertices : d.vertices ≤ 65536
  pub corners : d.corners ≤ 67582
  pub polys : d.counts.polys ≤ 16383
  pub portals : d.counts.portals ≤ 585
  pub links : d.links ≤ 8192
  pub bytes : b < 2 ^ 31

-- ---- the pages

-- after all: the pages are laid out, and no word of work behind twice the strip's is changed
pub record Filled (s : List ℕ) (n : Counts) (w w' xs ys : List ℕ) : Type 0 where
  pub bytes : ys ≡ put 0 (pages (cell_at s n)) xs
  pub long : length w' ≡ length w
  pub beyond : drop (2 * length s) w' ≡ drop (2 * length s) w
