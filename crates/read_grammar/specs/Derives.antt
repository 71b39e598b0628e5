-- The cell that two sections make, and the strip that they derive: the scope document's cell grammar. Definitions only.
use Rattle.std.specs.Prelude.{ℕ, ◌+◌, ◌*◌, ◌≤◌, ◌≡◌, true, List, map}
use Rattle.std.specs.Float.{binary32}
use Rattle.std.specs.Float.Ieee.{of_bits, to_bits}
use Rattle.fields.specs.Bytes.{le_at}
use Rattle.fields.specs.Rows.{field}
use Rattle.quantise.specs.Short.{coordinate}
use Rattle.strip.specs.Cell.{Vec3, NavPortal, NavPoint, Head, Cell, encode}
use Rattle.strip.specs.Box.{finite_box}
use Rattle.areas.specs.EdgeHalf as EdgeHalf
use Rattle.read_grammar.specs.Parts.{Good, Array}
use Rattle.read_grammar.specs.Trees.{Tree}
use Rattle.read_grammar.specs.Lists.{Items}
use Rattle.read_grammar.specs.Polygons.{PolygonOf, Each, links_at}
use Rattle.fields.specs.Sizes.{edge_size, index_size, navmesh_size, poly_size, portal_size, sector_size, vertex_size}

-- the area of an index, by the header's 32 areas from 0x98 on: one not below the area count, at 0x94, gives 16383
unfoldable pub area_of : List ℕ → ℕ → ℕ
area_of header i = EdgeHalf.area_of (λ k. le_at 4 header (0x98 + 4 * k)) (le_at 4 header 0x94) i

-- three floats as they stand in the bytes
unfoldable pub vec_of : List ℕ → ℕ → Vec3
vec_of b off = record { x = le_at 4 b off; y = le_at 4 b (off + 4); z = le_at 4 b (off + 8) }

-- header values and root box
unfoldable pub head_of : List ℕ → List ℕ → Head
head_of header root =
    record {
      content = le_at 4 header 0x10;
      area = le_at 4 header 0x140;
      version = le_at 4 header 0x160;
      vft = le_at 4 header 0;
      bb_min = vec_of root 0;
      bb_max = vec_of root 16;
      bb_size = vec_of header 0x60;
    }

-- a short turned back on an axis, floats as their bits
unfoldable pub axis : ℕ → ℕ → ℕ → ℕ
axis q lo extent = to_bits binary32 (coordinate q (of_bits binary32 lo) (of_bits binary32 extent))

-- three shorts turned back in the cell's box
unfoldable pub back_of : Head → ℕ → ℕ → ℕ → Vec3
back_of h x y z =
    record {
      x = axis x h.bb_min.x h.bb_size.x;
      y = axis y h.bb_min.y h.bb_size.y;
      z = axis z h.bb_min.z h.bb_size.z;
    }

-- a portal, 28 bytes
unfoldable pub portal_of : (ℕ → ℕ → ℕ → Vec3) → List ℕ → NavPortal
portal_of back b =
    record {
      kind = le_at 1 b 0;
      angle = le_at 1 b 1;
      flags_unk = le_at 2 b 2;
      from = back (le_at 2 b 4) (le_at 2 b 6) (le_at 2 b 8);
      to = back (le_at 2 b 10) (le_at 2 b 12) (le_at 2 b 14);
      poly_from = le_at 2 b 16;
      poly_to = le_at 2 b 20;
      area_from = field 0 14 (le_at 4 b 24);
      area_to = field 14 14 (le_at 4 b 24);
      area_unk = field 28 4 (le_at 4 b 24);
    }

-- a point, 8 bytes
unfoldable pub point_of : (ℕ → ℕ → ℕ → Vec3) → List ℕ → NavPoint
point_of back b = record { angle = le_at 1 b 6; kind = le_at 1 b 7; position = back (le_at 2 b 0) (le_at 2 b 2) (le_at 2 b 4) }

-- The two sections make the cell c, with a tree of so many sectors: a good header; a good root with finite min, max and bb_size; a tree of at
-- most 4,096 sectors; four lists; polygon runs inside indices and edges, indices below the vertex count; portals good if any.
pub record Makes (system graphics : List ℕ) (sectors : ℕ) (c : Cell) : Type 0 where
  pub header : List ℕ
  pub root : List ℕ
  pub vertices : List (List ℕ)
  pub indices : List (List ℕ)
  pub edges : List (List ℕ)
  pub polygons : List (List ℕ)
  pub portals : List (List ℕ)
  pub points : List (List ℕ)
  pub header_good : Good system graphics 0x5000_0000 navmesh_size header
  pub root_good : Good system graphics (le_at 8 header 0x120) sector_size root
  pub head_is : c.head ≡ head_of header root
  pub finite_box_is : finite_box c.head ≡ true
  pub tree : Tree system graphics (le_at 8 header 0x120) sectors points
  pub few_sectors : sectors ≤ 4096
  pub vertex_list : Items system graphics vertex_size (le_at 8 header 0x70) vertices
  pub index_list : Items system graphics index_size (le_at 8 header 0x80) indices
  pub edge_list : Items system graphics edge_size (le_at 8 header 0x88) edges
  pub polygon_list : Items system graphics poly_size (le_at 8 header 0x118) polygons
  pub portal_list : Array system graphics portal_size (le_at 8 header 0x128) (le_at 4 header 0x14C) portals
  pub polygons_are : Each (PolygonOf vertices indices edges (links_at system graphics (le_at 8 header 0x130) (le_at 4 header 0x150)) (area_of header) (back_of c.head)) polygons c.polys
  pub portals_are : c.portals ≡ map (portal_of (back_of c.head)) portals
  pub points_are : c.points ≡ map (point_of (back_of c.head)) points

-- the two sections derive the strip w
pub record Derives (system graphics w : List ℕ) : Type 0 where
  pub sectors : ℕ
  pub cell : Cell
  pub makes : Makes system graphics sectors cell
  pub strip : w ≡ encode cell
