-- The root of a written tree: the first of its blocks, with the cell's box as it stands in the strip; and how many sectors a tree has. Assumes nothing.
use mathlib.Core.Path.{◌≡◌, refl, ap, ◌∙◌}
use mathlib.Core.Bool.{Bool, true, false, cond}
use mathlib.Core.List.{List, [], ◌∷◌, ◌++◌}
use Prim.Native.Nat.{ℕ, zero, suc, ◌+◌, ◌*◌, ◌/◌, ◌%◌, ◌^◌, ◌≤◌, ◌<◌}
use native.Mathlib.Nat.{mod-eq_of_lt}
use native.Mathlib.Omega.{arith}
use lib.ListN.{length}
use lib.Dec.{eqb}
use lib.Ieee.{Float, binary32, of_bits, to_bits}
use Rattle.fields.specs.Rows.{row_bytes}
use Rattle.fields.proofs.Holds.{Holds}
use Rattle.fields.proofs.Rows.{length_rows, field_back}
use Rattle.math.specs.declared.vec3.Vec3.{Vec3 as Floats}
use Rattle.math.proofs.Finite.{float_back}
use Rattle.quarters.specs.declared.quarter.QuarterBox.{QuarterBox}
use Rattle.quarters.specs.declared.bounds.Aabb.{Aabb}
use Rattle.strip.specs.Cell.{Vec3, NavPoint, Cell}
use Rattle.strip.specs.Fits.{All}
use Rattle.strip.specs.Box as Box
use Rattle.strip.proofs.Box.{FiniteVec, FiniteBox}
use Rattle.write_blocks.specs.Layout.{place_of, address}
use Rattle.write_blocks.proofs.Standing.{Stand}
use Rattle.read_grammar.specs.Derives.{vec_of}
use Rattle.strip.proofs.Alls.{all_append}
use Rattle.write_pages.specs.Items.{floats}
use Rattle.write_pages.specs.Sectors.{Sector, sub0, sub1, sub2, sub3, depth_by, depth_of, root_box, leaves, leaf_of, points_of, grown, tree_of, sector_row, data_from, from0, from1, from2, from3, sector_address, leaf_blocks, tree_blocks}
use Rattle.write_pages.specs.Preorder.{sector_count, preorder}
use Rattle.write_pages.specs.Sectors.Sector.{leaf, node}
use Rattle.write_pages.specs.Pages.{sectors}
use Rattle.cell_record.specs.Words.{WordVec}
use Rattle.readback.proofs.Trees.{first_held}

-- the bits of a finite float pass through four bytes
float_passes : (w : ℕ) → w < 2 ^ 32 → Box.finite_bits w ≡ true → to_bits binary32 (of_bits binary32 w) % 256 ^ 4 ≡ w
float_passes w h f = ap (λ (x : ℕ). x % 256 ^ 4) (float_back w h f) ∙ mod-eq_of_lt h

-- ---- the root

abbrev pub box_at : Sector → Aabb
box_at (leaf b is ts) = b
box_at (node b t0 t1 t2 t3) = b

-- the bits of a float, as 4 bytes hold them
abbrev word : Float → ℕ
word x = to_bits binary32 x % 256 ^ 4

abbrev words : Floats → Vec3
words v = record { x = word v.x; y = word v.y; z = word v.z }

pub record Root (P : List ℕ) (end : ℕ) (b : Aabb) : Type 0 where
  pub bytes : List ℕ
  pub long : length bytes ≡ 96
  pub held : Holds P (place_of end 96) bytes
  pub min : vec_of bytes 0 ≡ words b.min
  pub max : vec_of bytes 16 ≡ words b.max

sector_root : (P : List ℕ) (end : ℕ) (b : Aabb) (d s0 s1 s2 s3 : ℕ) → Holds P (place_of end (length (row_bytes (sector_row b d s0 s1 s2 s3)))) (row_bytes (sector_row b d s0 s1 s2 s3)) → Root P end b
unfolding vec_of
sector_root P end b d s0 s1 s2 s3 h =
    let row = sector_row b d s0 s1 s2 s3 in
    record {
      bytes = row_bytes row;
      long = length_rows row;
      held = first_held P end 96 (row_bytes row) (length_rows row) h;
      min = rw (
        field_back row 0 4 (to_bits binary32 b.min.x) (omega arith) refl,
        field_back row 4 4 (to_bits binary32 b.min.y) (omega arith) refl,
        field_back row 8 4 (to_bits binary32 b.min.z) (omega arith) refl,
      );
      max = rw (
        field_back row 16 4 (to_bits binary32 b.max.x) (omega arith) refl,
        field_back row 20 4 (to_bits binary32 b.max.y) (omega arith) refl,
        field_back row 24 4 (to_bits binary32 b.max.z) (omega arith) refl,
      );
    }

pub tree_root : (P : List ℕ) (bb-min bb-size : Floats) (end first : ℕ) (t : Sector) → Stand P end (tree_blocks bb-min bb-size end first t) → Root P end (box_at t)
unfolding tree_blocks leaf_blocks
tree_root P bb-min bb-size end first (leaf b is ts) h = sector_root P end b (address (place_of (data_from end (length is) (length ts)) 32)) 0 0 0 0 h.0
tree_root P bb-min bb-size end first (node b t0 t1 t2 t3) h =
    sector_root P end b 0 (sector_address (from0 end)) (sector_address (from1 end t0)) (sector_address (from2 end t0 t1)) (sector_address (from3 end t0 t1 t2)) h.0

vec_back : (v : Vec3) → WordVec v → FiniteVec v → words (floats v) ≡ v
vec_back v w f = rw (float_passes v.x w.x f.x, float_passes v.y w.y f.y, float_passes v.z w.z f.z)

-- ---- a grown tree

-- sectors of a tree of depth d
abbrev full : ℕ → ℕ
full zero = 1
full (suc d) = 1 + 4 * full d

module _ (ids : QuarterBox → List ℕ) (stored : ℕ → List NavPoint) where
  grown_box : (d k : ℕ) (b : Aabb) → box_at (grown ids stored d k b) ≡ b
  unfolding grown
  grown_box zero k b = refl
  grown_box (suc d) k b = refl

  grown_count : (d k : ℕ) (b : Aabb) → sector_count (grown ids stored d k b) ≡ full d
  unfolding grown sector_count
  grown_count zero k b = refl
  grown_count (suc d) k b =
      omega (arith, grown_count d k (sub0 b), grown_count d (k + 4 ^ d) (sub1 b), grown_count d (k + 2 * 4 ^ d) (sub2 b), grown_count d (k + 3 * 4 ^ d) (sub3 b))

  grown_points : (P : NavPoint → Type 0) → ((k : ℕ) → All P (stored k)) → (d k : ℕ) (b : Aabb) → All P (preorder (grown ids stored d k b))
  unfolding grown preorder
  grown_points P h zero k b = h k
  grown_points P h (suc d) k b =
      let p0 = preorder (grown ids stored d k (sub0 b)) in
      let p1 = preorder (grown ids stored d (k + 4 ^ d) (sub1 b)) in
      let p2 = preorder (grown ids stored d (k + 2 * 4 ^ d) (sub2 b)) in
      let p3 = preorder (grown ids stored d (k + 3 * 4 ^ d) (sub3 b)) in
      all_append P p3 (p2 ++ (p1 ++ p0)) (grown_points P h d (k + 3 * 4 ^ d) (sub3 b))
      (all_append P p2 (p1 ++ p0) (grown_points P h d (k + 2 * 4 ^ d) (sub2 b))
      (all_append P p1 p0 (grown_points P h d (k + 4 ^ d) (sub1 b)) (grown_points P h d k (sub0 b))))

leaf_points : (P : NavPoint → Type 0) (boxes : List Aabb) (k : ℕ) (ts : List NavPoint) → All P ts → All P (points_of boxes k ts)
unfolding points_of
leaf_points P boxes k [] h = tt
leaf_points P boxes k (t ∷ ts) h = by (eqb (leaf_of boxes (floats t.position)) k) (leaf_points P boxes k ts h.1)
  where
    by : (b : Bool) → All P (points_of boxes k ts) → All P (cond b (t ∷ points_of boxes k ts) (points_of boxes k ts))
    by true rest = (h.0, rest)
    by false rest = rest

few_full : (n : ℕ) → full (depth_by n) ≤ 21
few_full zero = omega arith
few_full (suc n) = omega arith

module _ (c : Cell) where
  pub sectors_box : box_at (sectors c) ≡ root_box c.head
  unfolding sectors tree_of
  sectors_box = grown_box _ _ (depth_of c.head.content) 0 (root_box c.head)

  pub sectors_count : sector_count (sectors c) ≤ 21
  unfolding sectors tree_of
  sectors_count =
      let e : sector_count (sectors c) ≡ full (depth_of c.head.content) = grown_count _ _ (depth_of c.head.content) 0 (root_box c.head) in
      omega (arith, few_full (c.head.content / 2 ^ 2 % 2))

  pub sectors_points : (P : NavPoint → Type 0) → All P c.points → All P (preorder (sectors c))
  unfolding sectors tree_of
  sectors_points P h = grown_points _ _ P (λ k. leaf_points P (leaves (depth_of c.head.content) (root_box c.head)) k c.points h) (depth_of c.head.content) 0 (root_box c.head)

  module _ (P : List ℕ) (end : ℕ) (r : Root P end (box_at (sectors c))) (f : FiniteBox c.head) where
    pub root_min : WordVec c.head.bb_min → vec_of r.bytes 0 ≡ c.head.bb_min
    root_min w = r.min ∙ ap (λ (b : Aabb). words b.min) sectors_box ∙ vec_back c.head.bb_min w f.bb_min

    pub root_max : WordVec c.head.bb_max → vec_of r.bytes 16 ≡ c.head.bb_max
    root_max w = r.max ∙ ap (λ (b : Aabb). words b.max) sectors_box ∙ vec_back c.head.bb_max w f.bb_max
