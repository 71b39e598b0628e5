-- How far blocks reach at most: twice their bytes and 15 more for each, since less than 16 bytes are skipped before a block, or what a page has left,
-- which is less than the block. And how far at least: their bytes. Assumes nothing.
use Prim.Native.Nat.{ℕ, zero, suc, ◌+◌, ◌-◌, ◌*◌, ◌/◌, ◌%◌, ◌^◌, ◌≤◌, min}
use mathlib.Core.Path.{◌≡◌, refl, ap, sym, ◌∙◌}
use mathlib.Core.Bool.{Bool, true, false, cond}
use mathlib.Core.List.{List, [], ◌∷◌, ◌++◌}
use native.Mathlib.Omega.{arith}
use native.Mathlib.Nat.{mul-add, mul-zero, suc-mul}
use borrow.Author.Tests.{leb-false}
use lib.Dec.{leb}
use lib.ListN.{length}
use Rattle.quarters.specs.declared.quarter.QuarterBox.{QuarterBox}
use Rattle.quarters.specs.declared.bounds.Aabb.{Aabb}
use Rattle.strip.specs.Cell.{NavPoint}
use Rattle.write_blocks.specs.Layout.{aligned, place_of, behind, end_of}
use Rattle.write_blocks.specs.Laid.{sum_of}
use Rattle.write_blocks.specs.Lists.{per_part, part_count, part_counts, sizes, part_sizes, offset_sizes, list_sizes}
use Rattle.write_blocks.specs.Optional.{size_of}
use Rattle.write_pages.specs.Sectors as Sectors
use Rattle.write_pages.specs.Sectors.{Sector, quarters, grown, point_count, byte_count, sub0, sub1, sub2, sub3}
use Rattle.write_pages.specs.Sectors.Sector.{leaf, node}
use Rattle.write_blocks.proofs.Layouts.{sum_append}

-- ---- one block

near_by : (b : Bool) (end size : ℕ) → leb (aligned end % 16384 + size) 16384 ≡ b → cond b (aligned end) ((aligned end / 16384 + 1) * 16384) ≤ end + size + 15
near_by true end size e = omega arith
near_by false end size e = omega (arith, leb-false (aligned end % 16384 + size) 16384 e)

place_twice : (end size : ℕ) → place_of end size ≤ end + size + 15
unfolding place_of
place_twice end size = near_by (leb (aligned end % 16384 + size) 16384) end size refl

-- ---- blocks in a row

abbrev pub most : List ℕ → ℕ
most [] = 0
most (n ∷ ns) = 2 * n + 15 + most ns

pub end_most : (end : ℕ) (ns : List ℕ) → end_of end ns ≤ end + most ns
end_most end [] = omega arith
end_most end (n ∷ ns) = omega (arith, place_twice end n, end_most (behind end n) ns)

pub most_append : (ms ns : List ℕ) → most (ms ++ ns) ≡ most ms + most ns
most_append [] ns = omega arith
most_append (m ∷ ms) ns = omega (arith, most_append ms ns)

-- a block where there is something
pub most_some : (n : ℕ) → most (size_of n) ≤ 2 * n + 15
most_some zero = omega arith
most_some (suc n) = omega arith

-- ---- a list

parts_most : (w per k n : ℕ) → most (sizes w (part_counts k per n)) ≤ 2 * (w * n) + 15 * k
parts_most w per zero n = omega arith
parts_most w per (suc k) n =
    let m : ℕ = min per n in
    let e : m + (n - m) ≡ n = omega arith in
    let f : w * n ≡ w * m + w * (n - m) = ap (λ (j : ℕ). w * j) (sym e) ∙ mul-add w m (n - m) in
    omega (arith, parts_most w per k (n - m))

offsets_most : (k : ℕ) → most (offset_sizes k) ≤ 8 * k + 15
offsets_most zero = omega arith
offsets_most (suc k) = omega arith

pub list_most : (w n : ℕ) → most (list_sizes w n) ≤ 2 * (w * n) + 55 * part_count w n + 141
list_most w n =
    let k : ℕ = part_count w n in
    omega (arith, most_append (part_sizes w n) (offset_sizes k), parts_most w (per_part w) k n, offsets_most k)

-- k parts that are enough hold every item
parts_sum : (w per k n : ℕ) → n ≤ k * per → w * n ≤ sum_of (sizes w (part_counts k per n))
parts_sum w per zero n h = let z : n ≡ 0 = omega arith in rw (z, mul-zero w) (omega arith)
parts_sum w per (suc k) n h =
    let m : ℕ = min per n in
    let e : m + (n - m) ≡ n = omega arith in
    let f : w * n ≡ w * m + w * (n - m) = ap (λ (j : ℕ). w * j) (sym e) ∙ mul-add w m (n - m) in
    let g : n - m ≤ k * per = omega (arith, suc-mul k per) in
    omega (arith, parts_sum w per k (n - m) g)

pub list_sum : (w n : ℕ) → n ≤ part_count w n * per_part w → w * n ≤ sum_of (list_sizes w n)
list_sum w n h =
    let k : ℕ = part_count w n in
    omega (arith, sum_append (part_sizes w n) (offset_sizes k), parts_sum w (per_part w) k n h)

-- ---- a tree, in whose leaves are at most p ids each

abbrev pub tree_most : (p d : ℕ) → ℕ
tree_most p zero = 316 + 4 * p
tree_most p (suc d) = 207 + 4 * tree_most p d

module _ (ids : QuarterBox → List ℕ) (stored : ℕ → List NavPoint) (p : ℕ) (few : (q : QuarterBox) → length (ids q) ≤ p) where
  pub tree_most_lem : (d k : ℕ) (b : Aabb) → most (Sectors.sizes (grown ids stored d k b)) ≤ tree_most p d + 16 * point_count (grown ids stored d k b)
  unfolding grown Sectors.sizes point_count
  tree_most_lem zero k b =
      let m : ℕ = 2 * length (ids (quarters b)) in
      let n : ℕ = 8 * length (stored k) in
      omega (arith, most_append (size_of m) (size_of n ++ (32 ∷ [])), most_append (size_of n) (32 ∷ []), most_some m, most_some n, few (quarters b))
  tree_most_lem (suc d) k b =
      let k1 : ℕ = k + 4 ^ d in
      let k2 : ℕ = k + 2 * 4 ^ d in
      let k3 : ℕ = k + 3 * 4 ^ d in
      let s0 = Sectors.sizes (grown ids stored d k (sub0 b)) in
      let s1 = Sectors.sizes (grown ids stored d k1 (sub1 b)) in
      let s2 = Sectors.sizes (grown ids stored d k2 (sub2 b)) in
      let s3 = Sectors.sizes (grown ids stored d k3 (sub3 b)) in
      omega (
        arith,
        most_append s0 (s1 ++ (s2 ++ s3)),
        most_append s1 (s2 ++ s3),
        most_append s2 s3,
        tree_most_lem d k (sub0 b),
        tree_most_lem d k1 (sub1 b),
        tree_most_lem d k2 (sub2 b),
        tree_most_lem d k3 (sub3 b),
      )

-- its points are among its bytes
pub points_bytes : (t : Sector) → 8 * point_count t ≤ byte_count t
unfolding point_count byte_count
points_bytes (leaf b is ts) = omega arith
points_bytes (node b t0 t1 t2 t3) = omega (arith, points_bytes t0, points_bytes t1, points_bytes t2, points_bytes t3)
