-- What polygons are made from, and the polygon that 48 bytes make. Definitions only.
use Rattle.std.specs.Prelude.{ℕ, List, map, length}
use Rattle.fields.specs.Bytes.{le_at}
use Rattle.strip.specs.Cell.{Vec3, NavPoly}
use Rattle.read_grammar.specs.Polygons.{edge_of, link_run, run_of, PolygonOf}
use Rattle.read_polygon_words.specs.Words.{link_start, links_named}
use Rattle.read_list_set.specs.declared.Limits.{Limits}
use Rattle.read_polygon_sides.specs.Corner.{corner}

-- what polygons are made from: the lists' items, the link table, the area of each index, and shorts turned back
pub record Source : Type 0 where
  pub vertices : List (List ℕ)
  pub indices : List (List ℕ)
  pub edges : List (List ℕ)
  pub links : List ℕ
  pub area : ℕ → ℕ
  pub back : ℕ → ℕ → ℕ → Vec3

-- the grammar's relation between a polygon's 48 bytes and the polygon
abbrev pub Makes : Source → List ℕ → NavPoly → Type 0
Makes s = PolygonOf s.vertices s.indices s.edges s.links s.area s.back

-- how many of each there are
abbrev pub limits_of : Source → Limits
limits_of s = record { vertices = length s.vertices; indices = length s.indices; edges = length s.edges; links = length s.links }

-- the polygon, where there is one
unfoldable pub polygon_made : Source → List ℕ → NavPoly
polygon_made s b =
    record {
      flags0 = le_at 2 b 0;
      flags1 = le_at 4 b 0x24;
      flags2 = le_at 4 b 0x28;
      links = link_run s.links (link_start b) (links_named b);
      vertices = map (corner s.back s.vertices) (run_of b s.indices);
      edges = map (edge_of s.area) (run_of b s.edges);
    }
