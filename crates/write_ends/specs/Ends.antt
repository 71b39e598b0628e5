-- Sizes of blocks from counts alone, as the writer has them in its work: three words to a polygon's quarter box, one to a point's leaf. Definitions only.
use Rattle.std.specs.Prelude.{ℕ, zero, suc, ◌+◌, ◌*◌, ◌^◌, List, [], ◌∷◌, ◌++◌, length}
use Rattle.quarters.specs.declared.bounds.Aabb.{Aabb}
use Rattle.write_blocks.specs.Layout.{behind, end_of}
use Rattle.write_blocks.specs.Lists.{list_sizes}
use Rattle.write_blocks.specs.Optional.{size_of}
use Rattle.write_pages.specs.Sectors.{quarters, leaf_ids, sub0, sub1, sub2, sub3}
use Rattle.write_leaf_counts.specs.Work.{boxes_in, count_in}
use Rattle.fields.specs.Sizes.{edge_size, index_size, navmesh_size, point_size, poly_size, portal_size, sector_data_size, sector_size, vertex_size}

-- a leaf's: sector, m ids, n points, data
abbrev pub leaf_sizes : (m n : ℕ) → List ℕ
leaf_sizes m n = sector_size ∷ (size_of (2 * m) ++ (size_of (point_size * n) ++ (sector_data_size ∷ [])))

-- those of a tree, d splits below b, whose leaves are numbered from k on
unfoldable pub sizes_by : (boxes numbers : List ℕ) → (d k : ℕ) → Aabb → List ℕ
sizes_by boxes numbers zero k b = leaf_sizes (length (leaf_ids (quarters b) 0 (boxes_in boxes))) (count_in numbers k 0 (length numbers))
sizes_by boxes numbers (suc d) k b =
    sector_size
    ∷ (sizes_by boxes numbers d k (sub0 b)
    ++ (sizes_by boxes numbers d (k + 4 ^ d) (sub1 b)
    ++ (sizes_by boxes numbers d (k + 2 * 4 ^ d) (sub2 b)
    ++ sizes_by boxes numbers d (k + 3 * 4 ^ d) (sub3 b))))

-- those of the header and the four lists
abbrev pub lists_sizes : (vertices corners polys : ℕ) → List ℕ
lists_sizes vertices corners polys =
    navmesh_size ∷ (list_sizes vertex_size vertices ++ (list_sizes index_size corners ++ (list_sizes edge_size corners ++ list_sizes poly_size polys)))

-- and of what stands behind them
abbrev pub rest_sizes : (portals links : ℕ) → (sectors : List ℕ) → List ℕ
rest_sizes portals links sectors = sectors ++ (size_of (portal_size * portals) ++ size_of (2 * links))

abbrev pub pages_sizes : (vertices corners polys portals links : ℕ) → (sectors : List ℕ) → List ℕ
pages_sizes vertices corners polys portals links sectors = lists_sizes vertices corners polys ++ rest_sizes portals links sectors

-- the end behind the header and the four lists
abbrev pub lists_end : (vertices corners polys : ℕ) → ℕ
lists_end vertices corners polys =
    end_of (end_of (end_of (end_of (behind 0 navmesh_size) (list_sizes vertex_size vertices)) (list_sizes index_size corners)) (list_sizes edge_size corners)) (list_sizes poly_size polys)

-- and behind all blocks
abbrev pub pages_end : (vertices corners polys portals links : ℕ) → (sectors : List ℕ) → ℕ
pages_end vertices corners polys portals links sectors =
    end_of (end_of (end_of (lists_end vertices corners polys) sectors) (size_of (portal_size * portals))) (size_of (2 * links))
