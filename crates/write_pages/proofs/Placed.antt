-- The pages of an accepted cell: every block stands within one page, at a multiple of 16, apart from the others, and the pages are shorter than 2^28
-- bytes, so that no address in them is one of the graphics section. Assumes nothing.
use Prim.Native.Nat.{ℕ, zero, suc, ◌+◌, ◌*◌, ◌/◌, ◌%◌, ◌^◌, ◌≤◌, ◌<◌}
use mathlib.Core.Path.{◌≡◌, refl, ap, sym, ◌∙◌}
use mathlib.Core.List.{List, [], ◌∷◌, ◌++◌}
use native.Mathlib.Omega.{arith}
use lib.ListN.{length, length-append}
use Rattle.quarters.specs.declared.quarter.QuarterBox.{QuarterBox}
use Rattle.quarters.specs.declared.bounds.Aabb.{Aabb}
use Rattle.math.specs.declared.vec3.Vec3.{Vec3 as Floats}
use Rattle.strip.specs.Cell.{Vec3, NavEdge, NavPoly, NavPoint, Cell}
use Rattle.strip.specs.Fits.{All}
use Rattle.write_blocks.specs.Lists as Lists
use Rattle.write_blocks.specs.Lists.{per_part, part_count, part_counts, part_sizes, offset_sizes, list_sizes}
use Rattle.write_blocks.specs.Placed.{Small, Placed}
use Rattle.write_blocks.proofs.Layouts.{small_append, length_lengths}
use Rattle.write_blocks.proofs.Lists.{list_small, length_counts}
use Rattle.write_blocks.proofs.Placed.{blocks_placed}
use Rattle.write_pages.specs.Items.{gather, corners_of, corners_in, corners}
use Rattle.write_blocks.specs.Optional.{size_of}
use Rattle.write_pages.specs.Sectors as Sectors
use Rattle.write_pages.specs.Sectors.{Sector, grown, tree_of, leaf_counts, depth_by, depth_of, root_box, sub0, sub1, sub2, sub3}
use Rattle.write_pages.specs.Sectors.Sector.{leaf, node}
use Rattle.write_pages.specs.Pages as Pages
use Rattle.write_pages.specs.Pages.{all_corners, bb_min, bb_size, vertices, links, sectors, sizes_of, sizes, blocks, pages}
use Rattle.write_pages.specs.Accepted.{AllChecked, FewIn, Accepted}
use Rattle.strip.proofs.Alls.{all_apart}
use Rattle.write_pages.proofs.Sizes.{blocks_sizes}

-- ---- corners

pub length_corners : (bb-min bb-size : Floats) (vs : List Vec3) (es : List NavEdge) → length (corners_of bb-min bb-size vs es) ≡ length vs
unfolding corners_of
length_corners bb-min bb-size [] es = refl
length_corners bb-min bb-size (v ∷ vs) [] = ap suc (length_corners bb-min bb-size vs [])
length_corners bb-min bb-size (v ∷ vs) (e ∷ es) = ap suc (length_corners bb-min bb-size vs es)

-- the last run begins at 65535 at most, and has 2047 corners at most
pub runs_end : (bb-min bb-size : Floats) (start : ℕ) (ps : List NavPoly) → start ≤ 67582 → AllChecked start ps → start + length (corners bb-min bb-size ps) ≤ 67582
unfolding gather
runs_end bb-min bb-size start [] few h = omega arith
runs_end bb-min bb-size start (p ∷ ps) few h =
    let here : length (corners_in bb-min bb-size p) ≡ length p.vertices = length_corners bb-min bb-size p.vertices p.edges in
    let both = length-append (corners_in bb-min bb-size p) (corners bb-min bb-size ps) in
    let next : start + length p.vertices ≤ 67582 = omega (arith, h.0.start_fits, h.0.most_vertices) in
    omega (arith, runs_end bb-min bb-size (start + length p.vertices) ps next h.1)

-- ---- a tree's blocks

small_some : (n : ℕ) → n ≤ 16384 → Small (size_of n)
small_some zero h = tt
small_some (suc n) h = (h, tt)

length_some : (n : ℕ) → length (size_of n) ≤ 1
length_some zero = omega arith
length_some (suc n) = omega arith

pub small_tree : (t : Sector) → All FewIn (leaf_counts t) → Small (Sectors.sizes t)
unfolding Sectors.sizes leaf_counts
small_tree (leaf b is ts) h =
    let m : ℕ = length is in
    let n : ℕ = length ts in (
      omega arith,
      small_append (size_of (2 * m)) (size_of (8 * n) ++ (32 ∷ [])) (small_some (2 * m) (omega (arith, h.0.ids)))
          (small_append (size_of (8 * n)) (32 ∷ []) (small_some (8 * n) (omega (arith, h.0.points))) (omega arith, tt)),
    )
small_tree (node b t0 t1 t2 t3) h =
    let h0 = all_apart FewIn (leaf_counts t0) (leaf_counts t1 ++ (leaf_counts t2 ++ leaf_counts t3)) h in
    let h1 = all_apart FewIn (leaf_counts t1) (leaf_counts t2 ++ leaf_counts t3) h0.1 in
    let h2 = all_apart FewIn (leaf_counts t2) (leaf_counts t3) h1.1 in (
      omega arith,
      small_append (Sectors.sizes t0) (Sectors.sizes t1 ++ (Sectors.sizes t2 ++ Sectors.sizes t3)) (small_tree t0 h0.0)
          (small_append (Sectors.sizes t1) (Sectors.sizes t2 ++ Sectors.sizes t3) (small_tree t1 h1.0)
          (small_append (Sectors.sizes t2) (Sectors.sizes t3) (small_tree t2 h2.0) (small_tree t3 h2.1))),
    )

-- how many blocks a tree of depth d has at most: 4, 17, 69
abbrev most : ℕ → ℕ
most zero = 4
most (suc d) = 1 + 4 * most d

few_blocks : (ids : QuarterBox → List ℕ) (stored : ℕ → List NavPoint) (d k : ℕ) (b : Aabb) → length (Sectors.sizes (grown ids stored d k b)) ≤ most d
unfolding grown Sectors.sizes
few_blocks ids stored zero k b =
    let m : ℕ = length (ids (Sectors.quarters b)) in
    let n : ℕ = length (stored k) in
    rw (length-append (size_of (2 * m)), length-append (size_of (8 * n))) (omega (arith, length_some (2 * m), length_some (8 * n)))
few_blocks ids stored (suc d) k b =
    let k1 : ℕ = k + 4 ^ d in
    let k2 : ℕ = k + 2 * 4 ^ d in
    let k3 : ℕ = k + 3 * 4 ^ d in
    let s0 = Sectors.sizes (grown ids stored d k (sub0 b)) in
    let s1 = Sectors.sizes (grown ids stored d k1 (sub1 b)) in
    let s2 = Sectors.sizes (grown ids stored d k2 (sub2 b)) in
    let s3 = Sectors.sizes (grown ids stored d k3 (sub3 b)) in
    rw (length-append s0 (s1 ++ (s2 ++ s3)), length-append s1 (s2 ++ s3), length-append s2 s3)
    (omega (arith, few_blocks ids stored d k (sub0 b), few_blocks ids stored d k1 (sub1 b), few_blocks ids stored d k2 (sub2 b), few_blocks ids stored d k3 (sub3 b)))

deep : (n : ℕ) → most (depth_by n) ≤ 69
deep zero = omega arith
deep (suc n) = omega arith

few_sectors : (c : Cell) → length (Sectors.sizes (sectors c)) ≤ 69
unfolding sectors tree_of
few_sectors c =
    let h = c.head in
    let b : length (Sectors.sizes (sectors c)) ≤ most (depth_of h.content) = few_blocks _ _ (depth_of h.content) 0 (root_box h) in
    omega (arith, deep (h.content / 2 ^ 2 % 2))

-- ---- a list's blocks

length_sizes : (w : ℕ) (ms : List ℕ) → length (Lists.sizes w ms) ≡ length ms
length_sizes w [] = refl
length_sizes w (m ∷ ms) = ap suc (length_sizes w ms)

length_offsets : (k : ℕ) → length (offset_sizes k) ≤ 1
length_offsets zero = omega arith
length_offsets (suc k) = omega arith

-- header, part table and offsets, and the items of each part
few_list : (w n : ℕ) → length (list_sizes w n) ≤ part_count w n + 3
few_list w n =
    let k : ℕ = part_count w n in
    let parts : length (part_sizes w n) ≡ k = length_sizes w (part_counts k (per_part w) n) ∙ length_counts k (per_part w) n in
    rw (length-append (part_sizes w n) (offset_sizes k)) (omega (arith, length_offsets k))

-- ---- all blocks

module _ (c : Cell) (acc : Accepted c) where
  pub few_corners : length (all_corners c) ≤ 67582
  few_corners = omega (arith, runs_end (bb_min c) (bb_size c) 0 c.polys (omega arith) acc.checked)

  -- parts: 25 of vertices, 9 of indices, 33 of edges and 49 of polygons at most
  record Parts : Type 0 where
    vertices : part_count 6 (length (vertices c)) ≤ 25
    indices : part_count 2 (length (all_corners c)) ≤ 9
    edges : part_count 8 (length (all_corners c)) ≤ 33
    polygons : part_count 48 (length c.polys) ≤ 49

  parts : Parts
  parts = record {
    vertices = omega (arith, acc.few_vertices);
    indices = omega (arith, few_corners);
    edges = omega (arith, few_corners);
    polygons = omega (arith, acc.few_polygons);
  }

  small_sizes : Small (sizes c)
  unfolding sizes sizes_of Pages.counts
  small_sizes =
      let t = sectors c in
      let q = size_of (28 * length c.portals) in
      let l = size_of (2 * length (links c)) in
      let ps = list_sizes 48 (length c.polys) in
      let es = list_sizes 8 (length (all_corners c)) in
      let is = list_sizes 2 (length (all_corners c)) in
      let vs = list_sizes 6 (length (vertices c)) in
      let p = parts in (
        omega arith,
        small_append vs (is ++ (es ++ (ps ++ (Sectors.sizes t ++ (q ++ l))))) (list_small 6 (length (vertices c)) (omega (arith, p.vertices)))
            (small_append is (es ++ (ps ++ (Sectors.sizes t ++ (q ++ l)))) (list_small 2 (length (all_corners c)) (omega (arith, p.indices)))
            (small_append es (ps ++ (Sectors.sizes t ++ (q ++ l))) (list_small 8 (length (all_corners c)) (omega (arith, p.edges)))
            (small_append ps (Sectors.sizes t ++ (q ++ l)) (list_small 48 (length c.polys) (omega (arith, p.polygons)))
            (small_append (Sectors.sizes t) (q ++ l) (small_tree t acc.leaves)
            (small_append q l (small_some (28 * length c.portals) (omega (arith, acc.few_portals))) (small_some (2 * length (links c)) (omega (arith, acc.few_links)))))))),
      )

  pub at_most_200 : length (blocks c) ≤ 200
  unfolding sizes sizes_of Pages.counts
  at_most_200 =
      let t = sectors c in
      let q = size_of (28 * length c.portals) in
      let l = size_of (2 * length (links c)) in
      let ps = list_sizes 48 (length c.polys) in
      let es = list_sizes 8 (length (all_corners c)) in
      let is = list_sizes 2 (length (all_corners c)) in
      let vs = list_sizes 6 (length (vertices c)) in
      let p = parts in
      let whole : length (blocks c) ≡ length (sizes c) = sym (length_lengths (blocks c)) ∙ ap length (blocks_sizes c) in
      let long : length (sizes c) ≡ 1 + (length vs + (length is + (length es + (length ps + (length (Sectors.sizes t) + (length q + length l)))))) =
      rw (length-append vs, length-append is, length-append es, length-append ps, length-append (Sectors.sizes t), length-append q) (omega arith) in
      omega (arith, p.vertices, p.indices, p.edges, p.polygons, few_list 6 (length (vertices c)), few_list 2 (length (all_corners c)), few_list 8 (length (all_corners c)), few_list 48 (length c.polys), few_sectors c, length_some (28 * length c.portals), length_some (2 * length (links c)))

  -- every block stands as the layout promises
  pub pages_placed : Placed (blocks c)
  pages_placed = blocks_placed (blocks c) (rw blocks_sizes small_sizes)

  pub pages_short : length (pages c) < 2 ^ 28
  unfolding pages
  pages_short = omega (arith, pages_placed.short, at_most_200)
