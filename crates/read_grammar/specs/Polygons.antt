-- The polygon that its 48 bytes make, with the items of the lists, the link table, the area of each index, and shorts turned back. Definitions only.
use Rattle.std.specs.Prelude.{ℕ, ◌+◌, ◌*◌, ◌/◌, ◌≤◌, ◌<◌, ◌≡◌, cond, List, [], ◌∷◌, map, length, take, drop, get_or, leb}
use Rattle.fields.specs.Bytes.{le_at, cut}
use Rattle.fields.specs.Rows.{field}
use Rattle.resource.specs.Section.{resolved}
use Rattle.strip.specs.Cell.{Vec3, NavEdgeEnd, NavEdge, NavPoly}
use Rattle.strip.specs.Fits.{All}

-- an edge's half: area index in bits 0-4, poly 5-18, unk2 19-20, unk3 21-31
unfoldable pub half_of : (ℕ → ℕ) → ℕ → NavEdgeEnd
half_of area w = record { area = area (field 0 5 w); poly = field 5 14 w; unk2 = field 19 2 w; unk3 = field 21 11 w }

-- an edge, 8 bytes: its halves
unfoldable pub edge_of : (ℕ → ℕ) → List ℕ → NavEdge
edge_of area b = record { a = half_of area (le_at 4 b 0); b = half_of area (le_at 4 b 4) }

-- a vertex, 6 bytes: its three shorts turned back
unfoldable pub vertex_of : (ℕ → ℕ → ℕ → Vec3) → List ℕ → Vec3
vertex_of back b = back (le_at 2 b 0) (le_at 2 b 2) (le_at 2 b 4)

-- the n links at an address: a table that isn't good is empty
unfoldable pub links_at : (system graphics : List ℕ) → (va n : ℕ) → List ℕ
links_at system graphics va n = map (λ b. le_at 2 b 0) (cut 2 (length (resolved system graphics va (2 * n)) / 2) (resolved system graphics va (2 * n)))

-- n links from `start` on: a run outside the table gives no links
unfoldable pub link_run : List ℕ → ℕ → ℕ → List ℕ
link_run table start n = cond (leb (start + n) (length table)) (take n (drop start table)) []

-- a polygon's vertex count, at 2 in bits 5-15, and the start of its run, at 4
abbrev pub count_of : List ℕ → ℕ
count_of b = field 5 11 (le_at 2 b 2)

abbrev pub start_of : List ℕ → ℕ
start_of b = le_at 2 b 4

-- the items of its run
abbrev pub run_of : List ℕ → List (List ℕ) → List (List ℕ)
run_of b items = take (count_of b) (drop (start_of b) items)

-- The run lies inside indices and edges, its indices are below the vertex count, and the polygon is p. Links: count in bits 12-14 of the
-- word at 0x2C, links before them in bits 15-31.
pub record PolygonOf (vertices indices edges : List (List ℕ)) (links : List ℕ) (area : ℕ → ℕ) (back : ℕ → ℕ → ℕ → Vec3) (b : List ℕ) (p : NavPoly) : Type 0 where
  pub in_indices : start_of b + count_of b ≤ length indices
  pub in_edges : start_of b + count_of b ≤ length edges
  pub below : All (λ i. le_at 2 i 0 < length vertices) (run_of b indices)
  pub flags0 : p.flags0 ≡ le_at 2 b 0
  pub flags1 : p.flags1 ≡ le_at 4 b 0x24
  pub flags2 : p.flags2 ≡ le_at 4 b 0x28
  pub links_are : p.links ≡ link_run links (field 15 17 (le_at 4 b 0x2C)) (field 12 3 (le_at 4 b 0x2C))
  pub vertices_are : p.vertices ≡ map (λ i. vertex_of back (get_or vertices (le_at 2 i 0) [])) (run_of b indices)
  pub edges_are : p.edges ≡ map (edge_of area) (run_of b edges)

-- two lists, one by one
pub data Each {A B : Type 0} (R : A → B → Type 0) : List A → List B → Type 0 where
  none : Each R [] []
  more : {a : A} {b : B} {xs : List A} {ys : List B} → R a b → Each R xs ys → Each R (a ∷ xs) (b ∷ ys)
