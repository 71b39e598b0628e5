-- What pass two asks of pass one, and what it keeps, on lists that were read. Definitions only.
use Rattle.std.specs.Prelude.{ℕ, ◌+◌, ◌≤◌, ◌≡◌, List, length}
use Rattle.fields.specs.Put.{put}
use Rattle.fields.specs.Sizes.{edge_size, index_size, vertex_size}
use Rattle.math.specs.declared.vec3.Vec3.{Vec3}
use Rattle.strip.specs.Outcome.{values}
use Rattle.read_grammar.specs.Derives.{area_of}
use Rattle.read_records.specs.Back.{back_by}
use Rattle.read_polygon_words.specs.Front.{links_of}
use Rattle.read_list_set.specs.declared.Limits.{Limits}
use Rattle.read_list_set.specs.Items.{items_in}
use Rattle.read_polygon_tally.specs.Tally.{tally_from}
use Rattle.read_polygon_sides.specs.declared.Pages.{Pages}
use Rattle.read_polygon_sides.specs.Sides.{ListsOpen}
use Rattle.read_polygons.specs.declared.PolygonCursor.{PolygonCursor}
use Rattle.read_polygons.specs.Polygons.{Source}

-- the source that part tables, the link table's bytes, the header and the box give
abbrev pub source_of : List ℕ → List ℕ → List ℕ → List ℕ → List ℕ → List ℕ → List ℕ → Vec3 → Vec3 → Source
source_of system graphics vertices indices edges links header bb-min bb-size =
    record {
      vertices = items_in system graphics vertex_size vertices;
      indices = items_in system graphics index_size indices;
      edges = items_in system graphics edge_size edges;
      links = links_of links;
      area = area_of header;
      back = back_by bb-min bb-size;
    }

abbrev pub source_in : Pages → Source
source_in p = source_of p.reader.system.now p.reader.graphics.now p.vertices.now p.indices.now p.edges.now p.links.now p.header.now p.frame.bb_min p.frame.bb_size

-- words that stand from `at` on, and the rest as it was; the next place, and the cursors
pub record Put (system graphics vertices indices edges words old : List ℕ) (at : ℕ) (r : PolygonCursor) (new : List ℕ) : Type 0 where
  pub next : r.at ≡ at + length words
  pub ready : ListsOpen system graphics vertices indices edges r.cursors
  pub strip : new ≡ put at words old

-- pass one found no fault in polygons, the first of them number p, and their words have room from `at` on
pub record Passed (l : Limits) (indices : List (List ℕ)) (p : ℕ) (polys : List (List ℕ)) (at end : ℕ) : Type 0 where
  pub words : ℕ
  pub is : tally_from l indices p polys ≡ values words
  pub room : at + words ≤ end

-- the same of the pages in a struct
abbrev pub PutBy : Pages → (words old : List ℕ) → (at : ℕ) → PolygonCursor → (new : List ℕ) → Type 0
PutBy p = Put p.reader.system.now p.reader.graphics.now p.vertices.now p.indices.now p.edges.now
