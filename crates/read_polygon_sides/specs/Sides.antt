-- The vertices and edges of a polygon, and what their writers keep on lists that were read. Definitions only.
use Rattle.std.specs.Prelude.{ℕ, ◌+◌, ◌-◌, ◌*◌, ◌≤◌, ◌<◌, ◌≡◌, true, List, [], ◌++◌, map, length, take, drop, get_or}
use Rattle.fields.specs.Bytes.{cut}
use Rattle.fields.specs.Put.{put}
use Rattle.fields.specs.Sizes.{edge_size, index_size, vertex_size}
use Rattle.strip.specs.Cell.{Vec3 as Position, vec_words, edge_words, each}
use Rattle.read_grammar.specs.Polygons.{edge_of}
use Rattle.read_lists.specs.Lists.{item, total}
use Rattle.read_lists.specs.Listed.{Readable}
use Rattle.read_lists.specs.Cursors.{AtPart}
use Rattle.read_polygon_words.specs.Words.{all_below}
use Rattle.read_list_set.specs.Items.{items_in}
use Rattle.read_polygon_sides.specs.declared.Cursors.{Cursors}
use Rattle.read_polygon_sides.specs.declared.Pages.{Pages}
use Rattle.read_polygon_sides.specs.Corner.{corner}

-- the words of n vertices and of n edges, from `start` on
unfoldable pub sides : (ℕ → ℕ) → (ℕ → ℕ → ℕ → Position) → (vertices indices edges : List (List ℕ)) → (start n : ℕ) → List ℕ
sides area back vertices indices edges start n =
    each vec_words (map (corner back vertices) (take n (drop start indices))) ++ each edge_words (map (edge_of area) (take n (drop start edges)))

-- the three lists were read, and a cursor stands in each
pub record ListsOpen (system graphics vertices indices edges : List ℕ) (c : Cursors) : Type 0 where
  pub vertex_list : Readable system graphics vertex_size vertices
  pub index_list : Readable system graphics index_size indices
  pub edge_list : Readable system graphics edge_size edges
  pub in_vertices : AtPart vertices c.vertices
  pub in_indices : AtPart indices c.indices
  pub in_edges : AtPart edges c.edges

-- a run that passed 37 and 38
pub record Inside (system graphics vertices indices edges : List ℕ) (start n : ℕ) : Type 0 where
  pub in_indices : start + n ≤ total indices
  pub in_edges : start + n ≤ total edges
  pub below : all_below (total vertices) (take n (drop start (items_in system graphics index_size indices))) ≡ true

-- the same of the pages in a struct
abbrev pub OpenIn : Pages → Cursors → Type 0
OpenIn p = ListsOpen p.reader.system.now p.reader.graphics.now p.vertices.now p.indices.now p.edges.now

abbrev pub InsideOf : Pages → (start n : ℕ) → Type 0
InsideOf p = Inside p.reader.system.now p.reader.graphics.now p.vertices.now p.indices.now p.edges.now

-- bytes that hold `count` items of w bytes, of which the first has number `first`
pub record Held (w : ℕ) (items : List (List ℕ)) (first count : ℕ) (bytes : List ℕ) : Type 0 where
  pub at : (j : ℕ) → first ≤ j → j < first + count → get_or items j [] ≡ item w bytes (j - first)

-- the vertices of indices `from` to r are stored: what is left, stored behind them, gives what it would have given before
pub record Near (back : ℕ → ℕ → ℕ → Position) (part : List ℕ) (first count : ℕ) (run : List ℕ) (from n at : ℕ) (old : List ℕ) (r : ℕ) (new : List ℕ) : Type 0 where
  pub low : from ≤ r
  pub most : r ≤ n
  pub same_length : length new ≡ length old
  pub strip : (items : List (List ℕ)) → Held vertex_size items first count part
      → put (at + 3 * r) (each vec_words (map (corner back items) (cut index_size (n - r) (drop (index_size * r) run)))) new
      ≡ put (at + 3 * from) (each vec_words (map (corner back items) (cut index_size (n - from) (drop (index_size * from) run)))) old
