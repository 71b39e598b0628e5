-- Reading as one decision: the scope document's checks in their order, each with its number and place, and then the cell. Definitions only.
use Rattle.std.specs.Prelude.{ℕ, ◌-◌, ◌*◌, Bool, cond, List, [], ◌∷◌, map, ltb}
use Rattle.fields.specs.Bytes.{le_at, cut}
use Rattle.fields.specs.Sizes.{edge_size, index_size, navmesh_size, poly_size, portal_size, sector_size, vertex_size}
use Rattle.resource.specs.Section.{resolved}
use Rattle.strip.specs.Cell.{Head, Cell}
use Rattle.strip.specs.Box.{finite_box}
use Rattle.strip.specs.Outcome.{Paper, values, refusal}
use Rattle.read_grammar.specs.Polygons.{links_at}
use Rattle.read_grammar.specs.Derives.{area_of, back_of, head_of, portal_of, point_of}
use Rattle.read_lists.specs.Lists.{readable_at, table_of, listed}
use Rattle.read_polygons.specs.Polygons.{Source, limits_of, polygon_made}
use Rattle.read_polygon_tally.specs.Tally.{tally_from}
use Rattle.read_list_set.specs.Items.{items_in}
use Rattle.read_sectors.specs.Walk.{Walked, walk}
use Rattle.read_sectors.specs.Walk as Walk

-- the cell and the sectors visited, or a refusal's number and place
pub data Reading : Type 0 where
  made : Cell → ℕ → Reading
  refused : ℕ → ℕ → Reading

-- a check, whose refusal has a number and the place 0, before the rest
abbrev pub check : Bool → ℕ → Reading → Reading
check passed number rest = cond passed rest (refused number 0)

-- what is said of a list, or of the polygons, before the rest
abbrev pub on_paper : Paper ℕ → Reading → Reading
on_paper (values n) rest = rest
on_paper (refusal number place) rest = refused number place

-- the walk of the tree, before the rest, which goes by its points and the sectors visited
abbrev pub on_walk : Walked → (List (List ℕ) → ℕ → Reading) → Reading
on_walk (Walk.done left points) rest = rest points (4096 - left)
on_walk (Walk.refused number) rest = refused number 0

-- what the pages hold, by the header's addresses and counts
module _ (system graphics : List ℕ) where
  unfoldable pub header : List ℕ
  header = resolved system graphics 0x5000_0000 navmesh_size

  abbrev pub root_at : ℕ
  root_at = le_at 8 header 0x120

  unfoldable pub root : List ℕ
  root = resolved system graphics root_at sector_size

  unfoldable pub head : Head
  head = head_of header root

  -- the items of a list, by its address
  abbrev pub items_at : ℕ → ℕ → List (List ℕ)
  items_at size va = items_in system graphics size (table_of system graphics va)

  -- what polygons are made from, and their bytes
  unfoldable pub source : Source
  source =
      record {
        vertices = items_at vertex_size (le_at 8 header 0x70);
        indices = items_at index_size (le_at 8 header 0x80);
        edges = items_at edge_size (le_at 8 header 0x88);
        links = links_at system graphics (le_at 8 header 0x130) (le_at 4 header 0x150);
        area = area_of header;
        back = back_of head;
      }

  abbrev pub polygons : List (List ℕ)
  polygons = items_at poly_size (le_at 8 header 0x118)

  abbrev pub portal_count : ℕ
  portal_count = le_at 4 header 0x14C

  unfoldable pub portals : List ℕ
  portals = resolved system graphics (le_at 8 header 0x128) (portal_size * portal_count)

  -- the cell, with a tree of these points
  unfoldable pub cell_of : List (List ℕ) → Cell
  cell_of points =
      record {
        head = head;
        polys = map (polygon_made source) polygons;
        portals = map (portal_of (back_of head)) (cut portal_size portal_count portals);
        points = map (point_of (back_of head)) points;
      }

  -- before the walk: 30, 31, 32 for the root, 40
  unfoldable pub on_head : Reading → Reading
  on_head rest =
      check (readable_at system graphics 0x5000_0000 navmesh_size) 30
      (check (ltb 0 root_at) 31 (check (readable_at system graphics root_at sector_size) 32 (check (finite_box head) 40 rest)))

  -- after it: lists 1 to 4, then polygons
  unfoldable pub on_lists : Reading → Reading
  on_lists rest =
      on_paper (listed system graphics vertex_size (le_at 8 header 0x70) 1)
      (on_paper (listed system graphics index_size (le_at 8 header 0x80) 2)
      (on_paper (listed system graphics edge_size (le_at 8 header 0x88) 3)
      (on_paper (listed system graphics poly_size (le_at 8 header 0x118) 4)
      (on_paper (tally_from (limits_of source) source.indices 0 polygons) rest))))

  -- and portals: so many, 28 bytes each
  unfoldable pub after_walk : List (List ℕ) → ℕ → Reading
  after_walk points sectors =
      on_lists (check (readable_at system graphics (le_at 8 header 0x128) (portal_size * portal_count)) 39 (made (cell_of points) sectors))

  unfoldable pub read_cell : Reading
  read_cell = on_head (on_walk (walk system graphics 4096 (root_at ∷ [])) after_walk)
