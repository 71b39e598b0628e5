-- How many leaves a tree has, and how many points the leaves of an accepted cell store. Assumes nothing.
use Prim.Native.Nat.{ℕ, zero, suc, ◌+◌, ◌*◌, ◌/◌, ◌%◌, ◌^◌, ◌≤◌}
use mathlib.Core.Path.{◌≡◌, refl}
use mathlib.Core.List.{List, ◌++◌}
use native.Mathlib.Omega.{arith}
use native.Mathlib.Nat.{pow-suc}
use lib.ListN.{length, length-append}
use Rattle.quarters.specs.declared.quarter.QuarterBox.{QuarterBox}
use Rattle.quarters.specs.declared.bounds.Aabb.{Aabb}
use Rattle.strip.specs.Cell.{NavPoint, Cell}
use Rattle.strip.specs.Fits.{All}
use Rattle.strip.proofs.Alls.{all_apart}
use Rattle.write_pages.specs.Sectors.{Sector, sub0, sub1, sub2, sub3, grown, tree_of, point_count, leaf_counts, depth_by, depth_of, root_box}
use Rattle.write_pages.specs.Sectors.Sector.{leaf, node}
use Rattle.write_pages.specs.Pages.{sectors}
use Rattle.write_pages.specs.Accepted.{FewIn, Accepted}
use Rattle.write_pages.specs.PointCounts.{stored_count}

-- what has one element at a leaf, and where a sector is divided its four subs' elements one after the other, has 4^d in all
pub length_grown : {A : Type 0} (f : ℕ → ℕ → Aabb → List A) → ((k : ℕ) (b : Aabb) → length (f 0 k b) ≡ 1)
    → ((d k : ℕ) (b : Aabb) → f (suc d) k b ≡ f d k (sub0 b) ++ (f d (k + 4 ^ d) (sub1 b) ++ (f d (k + 2 * 4 ^ d) (sub2 b) ++ f d (k + 3 * 4 ^ d) (sub3 b))))
    → (d k : ℕ) (b : Aabb) → length (f d k b) ≡ 4 ^ d
length_grown f one four zero k b = omega (arith, one k b)
length_grown f one four (suc d) k b =
    rw (
      four d k b,
      length-append (f d k (sub0 b)),
      length-append (f d (k + 4 ^ d) (sub1 b)),
      length-append (f d (k + 2 * 4 ^ d) (sub2 b)),
      length_grown f one four d k (sub0 b),
      length_grown f one four d (k + 4 ^ d) (sub1 b),
      length_grown f one four d (k + 2 * 4 ^ d) (sub2 b),
      length_grown f one four d (k + 3 * 4 ^ d) (sub3 b),
      pow-suc 4 d,
    ) (omega arith)

pub leaves_length : (ids : QuarterBox → List ℕ) (stored : ℕ → List NavPoint) (d k : ℕ) (b : Aabb) → length (leaf_counts (grown ids stored d k b)) ≡ 4 ^ d
unfolding leaf_counts grown
leaves_length ids stored = length_grown (λ d k b. leaf_counts (grown ids stored d k b)) (λ k b. refl) (λ d k b. refl)

pub few_leaves : (n : ℕ) → 4 ^ depth_by n ≤ 16
few_leaves zero = omega arith
few_leaves (suc n) = omega arith

few_in : (t : Sector) → All FewIn (leaf_counts t) → point_count t ≤ 2048 * length (leaf_counts t)
unfolding leaf_counts point_count
few_in (leaf b is ts) h = omega (arith, h.0.points)
few_in (node b t0 t1 t2 t3) h =
    let a = all_apart FewIn (leaf_counts t0) (leaf_counts t1 ++ (leaf_counts t2 ++ leaf_counts t3)) h in
    let c = all_apart FewIn (leaf_counts t1) (leaf_counts t2 ++ leaf_counts t3) a.1 in
    let d = all_apart FewIn (leaf_counts t2) (leaf_counts t3) c.1 in
    rw (length-append (leaf_counts t0) (leaf_counts t1 ++ (leaf_counts t2 ++ leaf_counts t3)), length-append (leaf_counts t1) (leaf_counts t2 ++ leaf_counts t3), length-append (leaf_counts t2) (leaf_counts t3))
    (omega (arith, few_in t0 a.0, few_in t1 c.0, few_in t2 d.0, few_in t3 d.1))

module _ (c : Cell) where
  pub cell_leaves : length (leaf_counts (sectors c)) ≡ 4 ^ depth_of c.head.content
  unfolding sectors tree_of
  cell_leaves = leaves_length _ _ (depth_of c.head.content) 0 (root_box c.head)

  -- check 18 lets no leaf store more than 2,048 points, and there are at most 16
  pub few_stored : Accepted c → stored_count c ≤ 32768
  few_stored a = omega (arith, few_in (sectors c) a.leaves, cell_leaves, few_leaves (c.head.content / 2 ^ 2 % 2))
