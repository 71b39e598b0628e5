-- The end behind all blocks is the length of a cell's pages. Assumes nothing.
use Prim.Native.Nat.{ℕ, zero, suc, ◌+◌, ◌*◌, ◌^◌}
use mathlib.Core.Path.{◌≡◌, refl, ap, sym, ◌∙◌}
use mathlib.Core.List.{List, [], ◌∷◌, ◌++◌, append_assoc}
use native.Mathlib.Omega.{arith}
use lib.ListN.{length}
use Rattle.quarters.specs.declared.bounds.Aabb.{Aabb}
use Rattle.strip.specs.Cell.{NavPoint, Cell}
use Rattle.write_blocks.specs.Layout.{behind, end_of}
use Rattle.write_blocks.specs.Laid.{sum_of}
use Rattle.write_blocks.specs.Lists.{list_sizes}
use Rattle.write_blocks.proofs.Layouts.{end_append, sum_append}
use Rattle.write_blocks.specs.Optional.{size_of}
use Rattle.write_pages.specs.Sectors as Sectors
use Rattle.write_pages.specs.Sectors.{Sector, quarters, leaf_ids, grown, byte_count, sub0, sub1, sub2, sub3}
use Rattle.write_pages.specs.Sectors.Sector.{leaf, node}
use Rattle.write_pages.specs.Pages.{all_corners, vertices, links, sectors, counts, sizes_of, sizes, pages}
use Rattle.write_pages.proofs.Sizes.{pages_length}
use Rattle.write_leaf_counts.specs.Work.{boxes_in, picked_from, count_in, tree_by}
use Rattle.write_leaf_counts.proofs.Picks.{count_picked}
use Rattle.write_ends.specs.Ends.{leaf_sizes, sizes_by, lists_end, pages_end, pages_sizes}
use Rattle.write_ends.proofs.Behind.{behind_vertices, behind_indices, behind_edges}

-- the sizes by the words are the tree's
module _ (boxes numbers : List ℕ) (ts : List NavPoint) (l : length ts ≡ length numbers) where
  pub sizes_tree : (d k : ℕ) (b : Aabb) → Sectors.sizes (tree_by boxes numbers ts d k b) ≡ sizes_by boxes numbers d k b
  unfolding Sectors.sizes grown sizes_by
  sizes_tree zero k b =
      let n : length (picked_from numbers k 0 ts) ≡ count_in numbers k 0 (length numbers) = sym (count_picked numbers k 0 ts) ∙ ap (count_in numbers k 0) l in
      ap (leaf_sizes (length (leaf_ids (quarters b) 0 (boxes_in boxes)))) n
  sizes_tree (suc d) k b =
      rw (sizes_tree d k (sub0 b), sizes_tree d (k + 4 ^ d) (sub1 b), sizes_tree d (k + 2 * 4 ^ d) (sub2 b), sizes_tree d (k + 3 * 4 ^ d) (sub3 b))

-- the bytes that count for the total are those in the blocks
pub sum_some : (n : ℕ) → sum_of (size_of n) ≡ n
sum_some zero = refl
sum_some (suc n) = omega arith

pub sum_tree : (t : Sector) → sum_of (Sectors.sizes t) ≡ byte_count t
unfolding Sectors.sizes byte_count
sum_tree (leaf b is ts) =
    let m : ℕ = 2 * length is in
    let n : ℕ = 8 * length ts in
    omega (arith, sum_append (size_of m) (size_of n ++ (32 ∷ [])), sum_append (size_of n) (32 ∷ []), sum_some m, sum_some n)
sum_tree (node b t0 t1 t2 t3) =
    let s0 = Sectors.sizes t0 in
    let s1 = Sectors.sizes t1 in
    let s2 = Sectors.sizes t2 in
    let s3 = Sectors.sizes t3 in
    omega (
      arith,
      sum_append s0 (s1 ++ (s2 ++ s3)),
      sum_append s1 (s2 ++ s3),
      sum_append s2 s3,
      sum_tree t0,
      sum_tree t1,
      sum_tree t2,
      sum_tree t3,
    )

-- ends in a row, as the sizes are
ends_row : (v i p q l : ℕ) (t : List ℕ)
    → end_of 0 (368 ∷ (list_sizes 6 v ++ (list_sizes 2 i ++ (list_sizes 8 i ++ (list_sizes 48 p ++ (t ++ (size_of (28 * q) ++ size_of (2 * l)))))))) ≡ pages_end v i p q l t
ends_row v i p q l t =
    let qs = size_of (28 * q) in
    let ls = size_of (2 * l) in
    let ps = list_sizes 48 p in
    let es = list_sizes 8 i in
    let is = list_sizes 2 i in
    end_append (behind 0 368) (list_sizes 6 v) (is ++ (es ++ (ps ++ (t ++ (qs ++ ls)))))
    ∙ end_append (behind_vertices v i p) is (es ++ (ps ++ (t ++ (qs ++ ls))))
    ∙ end_append (behind_indices v i p) es (ps ++ (t ++ (qs ++ ls)))
    ∙ end_append (behind_edges v i p) ps (t ++ (qs ++ ls))
    ∙ end_append (lists_end v i p) t (qs ++ ls)
    ∙ end_append (end_of (lists_end v i p) t) qs ls

module _ (c : Cell) where
  -- the sizes by its counts are those of its pages
  pub cell_sizes : pages_sizes (length (vertices c)) (length (all_corners c)) (length c.polys) (length c.portals) (length (links c)) (Sectors.sizes (sectors c)) ≡ sizes c
  unfolding sizes sizes_of counts
  cell_sizes = simp append_assoc

  pub cell_end : pages_end (length (vertices c)) (length (all_corners c)) (length c.polys) (length c.portals) (length (links c)) (Sectors.sizes (sectors c)) ≡ length (pages c)
  unfolding sizes sizes_of counts
  cell_end =
      sym (ends_row (length (vertices c)) (length (all_corners c)) (length c.polys) (length c.portals) (length (links c)) (Sectors.sizes (sectors c)))
      ∙ sym (pages_length c)
