-- The blocks of a cell have the sizes that `sizes` gives from the cell's counts and its tree alone. Assumes nothing.
use Prim.Native.Nat.{ℕ, zero, suc, ◌+◌, ◌*◌}
use mathlib.Core.Path.{◌≡◌, refl, ap, sym, ◌∙◌}
use mathlib.Core.List.{List, [], ◌∷◌, ◌++◌, map}
use native.Mathlib.Nat.{zero-add}
use lib.ListN.{length, length-append, length-map}
use Rattle.fields.specs.Bytes.{les, cat}
use Rattle.fields.specs.Rows.{row_bytes}
use Rattle.fields.specs.RowPlaces.{row_size}
use Rattle.fields.proofs.Bytes.{length_les}
use Rattle.fields.proofs.Rows.{length_rows}
use Rattle.math.specs.declared.vec3.Vec3.{Vec3 as Floats}
use Rattle.quarters.specs.declared.bounds.Aabb.{Aabb}
use Rattle.strip.specs.Cell.{NavPoly, NavPortal, NavPoint, Head, Cell}
use Rattle.write_blocks.specs.Layout.{end_of, pages_of}
use Rattle.write_blocks.specs.Laid.{lengths}
use Rattle.write_blocks.specs.Lists.{list_sizes, list_blocks}
use Rattle.write_blocks.specs.ListRoom.{Wide}
use Rattle.write_blocks.proofs.Layouts.{lengths_append, length_blocks}
use Rattle.write_blocks.proofs.Lists.{length_cat, list_lengths}
use Rattle.write_pages.specs.Items.{Corner, vertex_row, index_row, edge_row, polygon_row, vertex_items, index_items, edge_items, polygon_items}
use Rattle.write_blocks.specs.Optional.{block_of, size_of}
use Rattle.write_pages.specs.Sectors as Sectors
use Rattle.write_pages.specs.Sectors.{Sector, sector_row, sector_address, from0, from1, from2, from3, point_count, point_row, point_items, leaf_blocks, tree_blocks}
use Rattle.write_pages.specs.Sectors.Sector.{leaf, node}
use Rattle.write_pages.specs.Pages.{Places, HeaderCounts, portal_row, portal_items, header_first, header_last, padded, header_bytes, all_corners, bb_min, bb_size, vertices, areas, links, sectors, counts, sizes_of, end_header, end_vertices, end_indices, end_edges, end_polygons, places_of, sizes, header, blocks, pages}
use Rattle.fields.specs.Sizes.{list_vft_edges, list_vft_indices, list_vft_polys, list_vft_vertices}

-- ---- items

-- items that are rows of w bytes
pub wide_rows : {A : Type 0} (w : ℕ) (row : A → List (ℕ × ℕ)) → ((a : A) → row_size (row a) ≡ w) → (xs : List A) → Wide w (map (λ a. row_bytes (row a)) xs)
wide_rows w row e [] = tt
wide_rows w row e (x ∷ xs) = (length_rows (row x) ∙ e x, wide_rows w row e xs)

pub wide_vertices : (table : List ℕ) → Wide 6 (vertex_items table)
unfolding vertex_items
wide_vertices table = wide_rows 6 vertex_row (λ t. refl) table

pub wide_indices : (table : List ℕ) (ks : List Corner) → Wide 2 (index_items table ks)
unfolding index_items
wide_indices table ks = wide_rows 2 (index_row table) (λ k. refl) ks

pub wide_edges : (us : List ℕ) (ks : List Corner) → Wide 8 (edge_items us ks)
unfolding edge_items
wide_edges us ks = wide_rows 8 (edge_row us) (λ k. refl) ks

pub wide_polygons : (own k start before : ℕ) (ps : List NavPoly) → Wide 48 (polygon_items own k start before ps)
unfolding polygon_items
wide_polygons own k start before [] = tt
wide_polygons own k start before (p ∷ ps) =
    (length_rows (polygon_row own k start before p), wide_polygons own (k + 1) (start + length p.vertices) (before + length p.links) ps)

pub length_polygons : (own k start before : ℕ) (ps : List NavPoly) → length (polygon_items own k start before ps) ≡ length ps
unfolding polygon_items
length_polygons own k start before [] = refl
length_polygons own k start before (p ∷ ps) = ap suc (length_polygons own (k + 1) (start + length p.vertices) (before + length p.links) ps)

pub length_vertices : (table : List ℕ) → length (vertex_items table) ≡ length table
unfolding vertex_items
length_vertices table = length-map table _

pub length_indices : (table : List ℕ) (ks : List Corner) → length (index_items table ks) ≡ length ks
unfolding index_items
length_indices table ks = length-map ks _

pub length_edges : (us : List ℕ) (ks : List Corner) → length (edge_items us ks) ≡ length ks
unfolding edge_items
length_edges us ks = length-map ks _

pub wide_points : (bb-min bb-size : Floats) (ts : List NavPoint) → Wide 8 (point_items bb-min bb-size ts)
unfolding point_items
wide_points bb-min bb-size ts = wide_rows 8 (point_row bb-min bb-size) (λ t. refl) ts

pub wide_portals : (bb-min bb-size : Floats) (ps : List NavPortal) → Wide 28 (portal_items bb-min bb-size ps)
unfolding portal_items
wide_portals bb-min bb-size ps = wide_rows 28 (portal_row bb-min bb-size) (λ p. refl) ps

-- ---- a block where there is something

pub block_lengths : (bs : List ℕ) → lengths (block_of bs) ≡ size_of (length bs)
block_lengths [] = refl
block_lengths (b ∷ bs) = refl

-- its size is n bytes
pub block_size : (n : ℕ) (bs : List ℕ) → length bs ≡ n → lengths (block_of bs) ≡ size_of n
block_size n bs e = block_lengths bs ∙ ap size_of e

pub point_count_lem : (bb-min bb-size : Floats) (ts : List NavPoint) → length (point_items bb-min bb-size ts) ≡ length ts
unfolding point_items
point_count_lem bb-min bb-size ts = length-map ts _

pub portal_count : (bb-min bb-size : Floats) (ps : List NavPortal) → length (portal_items bb-min bb-size ps) ≡ length ps
unfolding portal_items
portal_count bb-min bb-size ps = length-map ps _

pub length_points : (bb-min bb-size : Floats) (ts : List NavPoint) → length (cat (point_items bb-min bb-size ts)) ≡ 8 * length ts
length_points bb-min bb-size ts = length_cat 8 (point_items bb-min bb-size ts) (wide_points bb-min bb-size ts) ∙ ap (λ (n : ℕ). 8 * n) (point_count_lem bb-min bb-size ts)

pub length_portals : (bb-min bb-size : Floats) (ps : List NavPortal) → length (cat (portal_items bb-min bb-size ps)) ≡ 28 * length ps
length_portals bb-min bb-size ps = length_cat 28 (portal_items bb-min bb-size ps) (wide_portals bb-min bb-size ps) ∙ ap (λ (n : ℕ). 28 * n) (portal_count bb-min bb-size ps)

-- ---- the tree

module _ (bb-min bb-size : Floats) where
  leaf_lengths : (end first : ℕ) (b : Aabb) (is : List ℕ) (ts : List NavPoint)
      → lengths (leaf_blocks bb-min bb-size end first (length is) (length ts) b is ts) ≡ 96 ∷ (size_of (2 * length is) ++ (size_of (8 * length ts) ++ (32 ∷ [])))
  unfolding leaf_blocks
  leaf_lengths end first b is ts =
      let m : ℕ = length is in
      let n : ℕ = length ts in
      simp (length_rows, lengths_append, block_size (2 * m) (les 2 is) (length_les 2 is), block_size (8 * n) (cat (point_items bb-min bb-size ts)) (length_points bb-min bb-size ts))

  pub tree_lengths : (end first : ℕ) (t : Sector) → lengths (tree_blocks bb-min bb-size end first t) ≡ Sectors.sizes t
  unfolding tree_blocks Sectors.sizes
  tree_lengths end first (leaf b is ts) = leaf_lengths end first b is ts
  tree_lengths end first (node b t0 t1 t2 t3) =
      let f1 : ℕ = first + point_count t0 in
      let f2 : ℕ = first + (point_count t0 + point_count t1) in
      let f3 : ℕ = first + (point_count t0 + (point_count t1 + point_count t2)) in
      let b0 = tree_blocks bb-min bb-size (from0 end) first t0 in
      let b1 = tree_blocks bb-min bb-size (from1 end t0) f1 t1 in
      let b2 = tree_blocks bb-min bb-size (from2 end t0 t1) f2 t2 in
      let b3 = tree_blocks bb-min bb-size (from3 end t0 t1 t2) f3 t3 in
      rw (
        length_rows (sector_row b 0 (sector_address (from0 end)) (sector_address (from1 end t0)) (sector_address (from2 end t0 t1)) (sector_address (from3 end t0 t1 t2))),
        lengths_append b0 (b1 ++ (b2 ++ b3)),
        lengths_append b1 (b2 ++ b3),
        lengths_append b2 b3,
        tree_lengths (from0 end) first t0,
        tree_lengths (from1 end t0) f1 t1,
        tree_lengths (from2 end t0 t1) f2 t2,
        tree_lengths (from3 end t0 t1 t2) f3 t3,
      )

-- ---- the whole

pub length_padded : (n : ℕ) (l : List ℕ) → length (padded n l) ≡ n
unfolding padded
length_padded zero l = refl
length_padded (suc n) [] = ap suc (length_padded n [])
length_padded (suc n) (x ∷ l) = ap suc (length_padded n l)

pub header_length : (h : Head) (a : Places) (n : HeaderCounts) (us : List ℕ) → length (header_bytes h a n us) ≡ 368
unfolding header_bytes
header_length h a n us =
    rw (length-append, length_rows (header_first h a n), length-append, length_les 4 (padded 32 us), length_padded 32 us, length_rows (header_last h a n))

-- a list's blocks, of items that are as many as n
pub list_size : (end vft w n : ℕ) (items : List (List ℕ)) → Wide w items → length items ≡ n → lengths (list_blocks end vft w items) ≡ list_sizes w n
list_size end vft w n items h e = list_lengths end vft w items h ∙ ap (list_sizes w) e

pub blocks_sizes : (c : Cell) → lengths (blocks c) ≡ sizes c
unfolding blocks sizes sizes_of header counts
blocks_sizes c =
    let n = counts c in
    let t = sectors c in
    let vs = list_blocks (end_header n t) list_vft_vertices 6 (vertex_items (vertices c)) in
    let is = list_blocks (end_vertices n t) list_vft_indices 2 (index_items (vertices c) (all_corners c)) in
    let es = list_blocks (end_indices n t) list_vft_edges 8 (edge_items (areas c) (all_corners c)) in
    let ps = list_blocks (end_edges n t) list_vft_polys 48 (polygon_items c.head.area 0 0 0 c.polys) in
    let ts = tree_blocks (bb_min c) (bb_size c) (end_polygons n t) 0 t in
    let qs = block_of (cat (portal_items (bb_min c) (bb_size c) c.portals)) in
    let ls = block_of (les 2 (links c)) in
    rw (
      header_length c.head (places_of n t) n (areas c),
      lengths_append vs (is ++ (es ++ (ps ++ (ts ++ (qs ++ ls))))),
      lengths_append is (es ++ (ps ++ (ts ++ (qs ++ ls)))),
      lengths_append es (ps ++ (ts ++ (qs ++ ls))),
      lengths_append ps (ts ++ (qs ++ ls)),
      lengths_append ts (qs ++ ls),
      lengths_append qs ls,
      list_size (end_header n t) list_vft_vertices 6 (length (vertices c)) (vertex_items (vertices c)) (wide_vertices (vertices c)) (length_vertices (vertices c)),
      list_size (end_vertices n t) list_vft_indices 2 (length (all_corners c)) (index_items (vertices c) (all_corners c)) (wide_indices (vertices c) (all_corners c)) (length_indices (vertices c) (all_corners c)),
      list_size (end_indices n t) list_vft_edges 8 (length (all_corners c)) (edge_items (areas c) (all_corners c)) (wide_edges (areas c) (all_corners c)) (length_edges (areas c) (all_corners c)),
      list_size (end_edges n t) list_vft_polys 48 (length c.polys) (polygon_items c.head.area 0 0 0 c.polys) (wide_polygons c.head.area 0 0 0 c.polys) (length_polygons c.head.area 0 0 0 c.polys),
      tree_lengths (bb_min c) (bb_size c) (end_polygons n t) 0 t,
      block_size (28 * length c.portals) (cat (portal_items (bb_min c) (bb_size c) c.portals)) (length_portals (bb_min c) (bb_size c) c.portals),
      block_size (2 * length (links c)) (les 2 (links c)) (length_les 2 (links c)),
    )

-- the pages end where the last block ends
pub pages_length : (c : Cell) → length (pages c) ≡ end_of 0 (sizes c)
unfolding pages
pages_length c = sym (zero-add (length (pages_of (blocks c)))) ∙ length_blocks 0 (blocks c) ∙ ap (end_of 0) (blocks_sizes c)
