-- What the writer makes of a cell's polygons: the vertex table, the area table, the links, and the items of the four lists. An index or an area is
-- written as its place in the final table, so that an item is made of its polygon alone. Definitions only.
use Rattle.std.specs.Prelude.{ℕ, ◌+◌, ◌*◌, ◌/◌, ◌^◌, List, [], ◌∷◌, ◌++◌, map, length}
use Rattle.fields.specs.Rows.{row_bytes, pack}
use Rattle.math.specs.declared.vec3.Vec3.{Vec3 as Floats}
use Rattle.quantise.specs.Short.{shorts}
use Rattle.quarters.specs.Quarter.{bits16}
use Rattle.quarters.specs.Bounds.{least_side, greatest_side}
use Rattle.quantise.specs.declared.short.Shorts.{Shorts}
use Rattle.quarters.specs.declared.quarter.QuarterBox.{QuarterBox}
use Rattle.strip.specs.Cell.{Vec3, NavEdgeEnd, NavEdge, NavPoly}
pub use Rattle.cell_record.specs.Floats.{floats}
use Rattle.distinct.specs.Distinct.{index_of, distinct_from}
use Rattle.areas.specs.Areas.{seeded}
use Rattle.areas.specs.EdgeHalf.{half_word, adjacent_none}

-- three shorts as the one number x + 2^16 y + 2^32 z
abbrev pub triple : Shorts → ℕ
triple q = q.x + 2 ^ 16 * q.y + 2 ^ 32 * q.z

-- NONE: area and poly 16383, unk2 and unk3 zero
abbrev pub no_half : NavEdgeEnd
no_half = record { area = adjacent_none; poly = adjacent_none; unk3 = 0; unk2 = 0 }

abbrev pub no_edge : NavEdge
no_edge = record { a = no_half; b = no_half }

-- a corner of a polygon: a vertex as its shorts, and the edge that leaves it
pub record Corner : Type 0 where
  pub vertex : ℕ
  pub edge : NavEdge

-- each polygon's own list, one after the other
unfoldable pub gather : {A : Type 0} → (NavPoly → List A) → List NavPoly → List A
gather f [] = []
gather f (p ∷ ps) = f p ++ gather f ps

-- in the box of bb_min and bb_size
module _ (bb-min bb-size : Floats) where
  unfoldable pub triple_in : Vec3 → ℕ
  triple_in v = triple (shorts (floats v) bb-min bb-size)

  -- as many corners as vertices: a missing edge is NONE, surplus edges are ignored
  unfoldable pub corners_of : List Vec3 → List NavEdge → List Corner
  corners_of [] es = []
  corners_of (v ∷ vs) [] = record { vertex = triple_in v; edge = no_edge } ∷ corners_of vs []
  corners_of (v ∷ vs) (e ∷ es) = record { vertex = triple_in v; edge = e } ∷ corners_of vs es

  abbrev pub corners_in : NavPoly → List Corner
  corners_in p = corners_of p.vertices p.edges

  abbrev pub corners : List NavPoly → List Corner
  corners = gather corners_in

-- ---- tables

abbrev pub triples : List Corner → List ℕ
triples = map (λ k. k.vertex)

-- the areas that edges name, half a's before half b's
unfoldable pub named : List Corner → List ℕ
named [] = []
named (k ∷ ks) = k.edge.a.area ∷ k.edge.b.area ∷ named ks

-- equal short triples share a vertex, numbered as first met
abbrev pub vertex_table : List Corner → List ℕ
vertex_table ks = distinct_from [] (triples ks)

-- the seeds of the own id, then as edges name them
abbrev pub area_table : ℕ → List Corner → List ℕ
area_table own ks = distinct_from (seeded own) (named ks)

abbrev pub links_of : List NavPoly → List ℕ
links_of = gather (λ p. p.links)

-- ---- items

-- a vertex, 6 bytes: its shorts
abbrev pub vertex_row : ℕ → List (ℕ × ℕ)
vertex_row t = (2, t) ∷ (2, t / 2 ^ 16) ∷ (2, t / 2 ^ 32) ∷ []

-- an index, 2 bytes, by the vertex table
abbrev pub index_row : List ℕ → Corner → List (ℕ × ℕ)
index_row table k = (2, index_of table k.vertex) ∷ []

-- an edge, 8 bytes, by the area table
abbrev pub half_of : List ℕ → NavEdgeEnd → ℕ
half_of areas h = half_word (index_of areas h.area) h.poly h.unk2 h.unk3

abbrev pub edge_row : List ℕ → Corner → List (ℕ × ℕ)
edge_row areas k = (4, half_of areas k.edge.a) ∷ (4, half_of areas k.edge.b) ∷ []

unfoldable pub vertex_items : List ℕ → List (List ℕ)
vertex_items table = map (λ t. row_bytes (vertex_row t)) table

unfoldable pub index_items : List ℕ → List Corner → List (List ℕ)
index_items table ks = map (λ k. row_bytes (index_row table k)) ks

unfoldable pub edge_items : List ℕ → List Corner → List (List ℕ)
edge_items areas ks = map (λ k. row_bytes (edge_row areas k)) ks

-- a polygon's quarter box, by the min and max of its vertices
unfoldable pub box_of : NavPoly → QuarterBox
box_of p = record {
  x_min = least_side (map (λ v. v.x) p.vertices);
  x_max = greatest_side (map (λ v. v.x) p.vertices);
  y_min = least_side (map (λ v. v.y) p.vertices);
  y_max = greatest_side (map (λ v. v.y) p.vertices);
  z_min = least_side (map (λ v. v.z) p.vertices);
  z_max = greatest_side (map (λ v. v.z) p.vertices);
}

-- how many polygons stand in a part: as many as take at most a page
abbrev pub polys_per_part : ℕ
polys_per_part = 341

-- the word at 0x2C of polygon k, with `before` links before its own: (k ÷ 341) × 16, links × 4096, links before it × 32768
abbrev pub part_word : (k links before : ℕ) → ℕ
part_word k links before = pack ((4, 0) ∷ (8, k / polys_per_part) ∷ (3, links) ∷ (17, before) ∷ [])

-- a polygon, 48 bytes. It is number k, `start` indices and `before` links come before its own, and own is the cell's area id
abbrev pub polygon_row : (own k start before : ℕ) → NavPoly → List (ℕ × ℕ)
polygon_row own k start before p =
    (2, p.flags0) ∷ (2, pack ((5, 0) ∷ (11, length p.vertices) ∷ [])) ∷ (2, start) ∷ (2, own) ∷ (16, 0)
    ∷ (2, bits16 (box_of p).x_min) ∷ (2, bits16 (box_of p).x_max)
    ∷ (2, bits16 (box_of p).y_min) ∷ (2, bits16 (box_of p).y_max)
    ∷ (2, bits16 (box_of p).z_min) ∷ (2, bits16 (box_of p).z_max)
    ∷ (4, p.flags1) ∷ (4, p.flags2) ∷ (4, part_word k (length p.links) before) ∷ []

-- polygons from number k on
unfoldable pub polygon_items : (own k start before : ℕ) → List NavPoly → List (List ℕ)
polygon_items own k start before [] = []
polygon_items own k start before (p ∷ ps) =
    row_bytes (polygon_row own k start before p) ∷ polygon_items own (k + 1) (start + length p.vertices) (before + length p.links) ps
