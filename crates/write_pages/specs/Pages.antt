-- The pages of a cell. Sizes come from the cell alone, positions from sizes, contents from the cell and the positions. Document 01, 'Pages' and module 8.
-- Definitions only.
use Rattle.std.specs.Prelude.{ℕ, zero, suc, ◌+◌, ◌*◌, List, [], ◌∷◌, ◌++◌, map, length}
use Rattle.fields.specs.Bytes.{les, cat}
use Rattle.fields.specs.Rows.{row_bytes, pack}
use Rattle.math.specs.declared.vec3.Vec3.{Vec3 as Floats}
use Rattle.quantise.specs.Short.{shorts}
use Rattle.strip.specs.Cell.{NavPortal, Head, Cell}
use Rattle.write_blocks.specs.Layout.{place_of, behind, end_of, address, pages_of}
use Rattle.write_blocks.specs.Lists.{list_sizes, list_blocks}
use Rattle.write_pages.specs.Items.{floats, Corner, corners, vertex_table, area_table, links_of, vertex_items, index_items, edge_items, polygon_items}
use Rattle.write_blocks.specs.Optional.{block_of, size_of, address_of}
use Rattle.write_pages.specs.Sectors as Sectors
use Rattle.write_pages.specs.Sectors.{Sector, tree_of, tree_blocks, point_count, byte_count, nan_word}
use Rattle.fields.specs.Sizes.{edge_size, index_size, list_size, list_vft_edges, list_vft_indices, list_vft_polys, list_vft_vertices, navmesh_size, poly_size, portal_size, sector_size, vertex_size}

-- ---- portals

-- a portal, 28 bytes: kind, angle, flags_unk, six shorts, poly_from twice, poly_to twice, area_from (14 bits), area_to (14), area_unk (4)
module _ (bb-min bb-size : Floats) where
  abbrev pub portal_row : NavPortal → List (ℕ × ℕ)
  portal_row p =
      (1, p.kind) ∷ (1, p.angle) ∷ (2, p.flags_unk)
      ∷ (2, (shorts (floats p.from) bb-min bb-size).x) ∷ (2, (shorts (floats p.from) bb-min bb-size).y) ∷ (2, (shorts (floats p.from) bb-min bb-size).z)
      ∷ (2, (shorts (floats p.to) bb-min bb-size).x) ∷ (2, (shorts (floats p.to) bb-min bb-size).y) ∷ (2, (shorts (floats p.to) bb-min bb-size).z)
      ∷ (2, p.poly_from) ∷ (2, p.poly_from) ∷ (2, p.poly_to) ∷ (2, p.poly_to)
      ∷ (4, pack ((14, p.area_from) ∷ (14, p.area_to) ∷ (4, p.area_unk) ∷ [])) ∷ []

  unfoldable pub portal_items : List NavPortal → List (List ℕ)
  portal_items ps = map (λ p. row_bytes (portal_row p)) ps

-- ---- the header

-- addresses: of the four lists, the root, portals and links
pub record Places : Type 0 where
  pub vertices : ℕ
  pub indices : ℕ
  pub edges : ℕ
  pub polygons : ℕ
  pub root : ℕ
  pub portals : ℕ
  pub links : ℕ

pub record HeaderCounts : Type 0 where
  pub vertices : ℕ
  pub indices : ℕ
  pub areas : ℕ
  pub polygons : ℕ
  pub points : ℕ
  pub portals : ℕ
  pub links : ℕ
  pub total : ℕ

-- the bits of 1
abbrev pub one_bits : ℕ
one_bits = 0x3F80_0000

-- a row of the matrix: column 3 is the NaN in every row
abbrev pub matrix_row : ℕ → ℕ → ℕ → List (ℕ × ℕ)
matrix_row x y z = (4, x) ∷ (4, y) ∷ (4, z) ∷ (4, nan_word) ∷ []

abbrev pub matrix : List (ℕ × ℕ)
matrix = matrix_row one_bits 0 0 ++ (matrix_row 0 one_bits 0 ++ (matrix_row 0 0 one_bits ++ matrix_row 0 0 0))

-- from 0 to 0x98, where the areas are
abbrev pub header_first : Head → Places → HeaderCounts → List (ℕ × ℕ)
header_first h a n =
    ((4, h.vft) ∷ (4, 1) ∷ (8, 0) ∷ (4, h.content) ∷ (4, 0x10011) ∷ (8, 0) ∷ [])
    ++ (matrix
    ++ ((4, h.bb_size.x) ∷ (4, h.bb_size.y) ∷ (4, h.bb_size.z) ∷ (4, 0x7F80_0001)
    ∷ (8, a.vertices) ∷ (8, 0) ∷ (8, a.indices) ∷ (8, a.edges) ∷ (4, n.indices) ∷ (4, n.areas) ∷ []))

-- 32 areas: zeros behind those that there are
unfoldable pub padded : ℕ → List ℕ → List ℕ
padded zero l = []
padded (suc n) [] = 0 ∷ padded n []
padded (suc n) (x ∷ l) = x ∷ padded n l

-- from 0x118 on
abbrev pub header_last : Head → Places → HeaderCounts → List (ℕ × ℕ)
header_last h a n =
    (8, a.polygons) ∷ (8, a.root) ∷ (8, a.portals) ∷ (8, a.links) ∷ (4, n.vertices) ∷ (4, n.polygons) ∷ (4, h.area) ∷ (4, n.total)
    ∷ (4, n.points) ∷ (4, n.portals) ∷ (4, n.links) ∷ (12, 0) ∷ (4, h.version) ∷ (12, 0) ∷ []

-- the header, 368 bytes
unfoldable pub header_bytes : Head → Places → HeaderCounts → List ℕ → List ℕ
header_bytes h a n areas = row_bytes (header_first h a n) ++ (les 4 (padded 32 areas) ++ row_bytes (header_last h a n))

-- ---- what there is of a cell

module _ (c : Cell) where
  -- bb_min and bb_size
  abbrev pub bb_min : Floats
  bb_min = floats c.head.bb_min

  abbrev pub bb_size : Floats
  bb_size = floats c.head.bb_size

  abbrev pub all_corners : List Corner
  all_corners = corners bb_min bb_size c.polys

  unfoldable pub vertices : List ℕ
  vertices = vertex_table all_corners

  unfoldable pub areas : List ℕ
  areas = area_table c.head.area all_corners

  unfoldable pub links : List ℕ
  links = links_of c.polys

  unfoldable pub sectors : Sector
  sectors = tree_of c.head c.polys c.points

  unfoldable pub counts : HeaderCounts
  counts = record {
    vertices = length vertices;
    indices = length all_corners;
    areas = length areas;
    polygons = length c.polys;
    points = point_count sectors;
    portals = length c.portals;
    links = length links;
    -- 96 per sector, 32 per leaf, 2 per polygon id in a leaf, 8 per point stored, 28 per portal, and the four lists' items
    total = byte_count sectors + portal_size * length c.portals + vertex_size * length vertices + index_size * length all_corners + edge_size * length all_corners + poly_size * length c.polys;
  }

-- ---- sizes and positions, from the counts and the tree alone

-- the blocks' sizes: header; lists in the order vertices, indices, edges, polygons; sectors; portals; links
unfoldable pub sizes_of : HeaderCounts → Sector → List ℕ
sizes_of n t =
    navmesh_size
    ∷ (list_sizes vertex_size n.vertices
    ++ (list_sizes index_size n.indices
    ++ (list_sizes edge_size n.indices
    ++ (list_sizes poly_size n.polygons
    ++ (Sectors.sizes t
    ++ (size_of (portal_size * n.portals)
    ++ size_of (2 * n.links)))))))

-- the end behind each part
module _ (n : HeaderCounts) (t : Sector) where
  unfoldable pub end_header : ℕ
  end_header = behind 0 navmesh_size

  unfoldable pub end_vertices : ℕ
  end_vertices = end_of end_header (list_sizes vertex_size n.vertices)

  unfoldable pub end_indices : ℕ
  end_indices = end_of end_vertices (list_sizes index_size n.indices)

  unfoldable pub end_edges : ℕ
  end_edges = end_of end_indices (list_sizes edge_size n.indices)

  unfoldable pub end_polygons : ℕ
  end_polygons = end_of end_edges (list_sizes poly_size n.polygons)

  unfoldable pub end_sectors : ℕ
  end_sectors = end_of end_polygons (Sectors.sizes t)

  unfoldable pub end_portals : ℕ
  end_portals = end_of end_sectors (size_of (portal_size * n.portals))

  unfoldable pub places_of : Places
  places_of = record {
    vertices = address (place_of end_header list_size);
    indices = address (place_of end_vertices list_size);
    edges = address (place_of end_indices list_size);
    polygons = address (place_of end_edges list_size);
    root = address (place_of end_polygons sector_size);
    portals = address_of end_sectors (portal_size * n.portals);
    links = address_of end_portals (2 * n.links);
  }

-- ---- the pages

module _ (c : Cell) where
  unfoldable pub sizes : List ℕ
  sizes = sizes_of (counts c) (sectors c)

  unfoldable pub header : List ℕ
  header = header_bytes c.head (places_of (counts c) (sectors c)) (counts c) (areas c)

  unfoldable pub blocks : List (List ℕ)
  blocks =
      header
      ∷ (list_blocks (end_header (counts c) (sectors c)) list_vft_vertices vertex_size (vertex_items (vertices c))
      ++ (list_blocks (end_vertices (counts c) (sectors c)) list_vft_indices index_size (index_items (vertices c) (all_corners c))
      ++ (list_blocks (end_indices (counts c) (sectors c)) list_vft_edges edge_size (edge_items (areas c) (all_corners c))
      ++ (list_blocks (end_edges (counts c) (sectors c)) list_vft_polys poly_size (polygon_items c.head.area 0 0 0 c.polys)
      ++ (tree_blocks (bb_min c) (bb_size c) (end_polygons (counts c) (sectors c)) 0 (sectors c)
      ++ (block_of (cat (portal_items (bb_min c) (bb_size c) c.portals))
      ++ block_of (les 2 (links c))))))))

  unfoldable pub pages : List ℕ
  pages = pages_of blocks
