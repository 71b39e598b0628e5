-- The sector tree: how a box splits itself, which leaf takes a point, which polygons stand in a leaf, and the tree's blocks. Sizes come from counts
-- alone, addresses from positions. Document 01, 'Sectors'. Definitions only.
use Rattle.std.specs.Prelude.{ℕ, zero, suc, ◌+◌, ◌*◌, ◌/◌, ◌%◌, ◌^◌, Bool, false, cond, ◌&&◌, List, [], ◌∷◌, ◌++◌, map, ℤ, negsuc, length, eqb, Float}
use Rattle.std.specs.Int.Signed.{le_z}
use Rattle.std.specs.Float.{fin, binary32}
use Rattle.std.specs.Float.Ieee.{add, mul, le, to_bits}
use Rattle.fields.specs.Bytes.{les, cat}
use Rattle.fields.specs.Rows.{row_bytes}
use Rattle.math.specs.declared.vec3.Vec3.{Vec3 as Floats}
use Rattle.quantise.specs.Short.{nought, shorts}
use Rattle.quarters.specs.Quarter.{quarter_box, bits16}
use Rattle.quarters.specs.declared.quarter.QuarterBox.{QuarterBox}
use Rattle.quarters.specs.declared.bounds.Aabb.{Aabb}
use Rattle.strip.specs.Cell.{NavPoly, NavPoint, Head}
use Rattle.write_blocks.specs.Layout.{place_of, behind, end_of, address}
use Rattle.write_pages.specs.Items.{floats, box_of}
use Rattle.write_blocks.specs.Optional.{block_of, size_of, address_of}
use Rattle.fields.specs.Sizes.{point_size, sector_data_size, sector_size}

-- ---- boxes

abbrev pub vec : Float → Float → Float → Floats
vec x y z = record { x = x; y = y; z = z }

abbrev pub box : Floats → Floats → Aabb
box min max = record { min = min; max = max }

-- (min + max) × 0.5
unfoldable pub middle : Float → Float → Float
middle a b = mul binary32 (add binary32 a b) (fin false 1 (negsuc 0))

abbrev pub centre : Aabb → Floats
centre b = vec (middle b.min.x b.max.x) (middle b.min.y b.max.y) (middle b.min.z b.max.z)

-- the four subs: (cx, cy, cz) to max
abbrev pub sub0 : Aabb → Aabb
sub0 b = box (centre b) b.max

-- (cx, min y, 0) to (max x, cy, 0)
abbrev pub sub1 : Aabb → Aabb
sub1 b = box (vec (centre b).x b.min.y nought) (vec b.max.x (centre b).y nought)

-- min to (cx, cy, cz)
abbrev pub sub2 : Aabb → Aabb
sub2 b = box b.min (centre b)

-- (min x, cy, 0) to (cx, max y, 0)
abbrev pub sub3 : Aabb → Aabb
sub3 b = box (vec b.min.x (centre b).y nought) (vec (centre b).x b.max.y nought)

-- the leaves' boxes in writing order, d splits below b
unfoldable pub leaves : ℕ → Aabb → List Aabb
leaves zero b = b ∷ []
leaves (suc d) b = leaves d (sub0 b) ++ (leaves d (sub1 b) ++ (leaves d (sub2 b) ++ leaves d (sub3 b)))

-- the root's box, and how often it splits: depth 2, or 0 if content bit 2 is set
abbrev pub root_box : Head → Aabb
root_box h = box (floats h.bb_min) (floats h.bb_max)

abbrev pub depth_by : ℕ → ℕ
depth_by zero = 2
depth_by (suc n) = 0

-- the content bit of a vehicle cell
abbrev pub content_vehicle : ℕ
content_vehicle = 4

abbrev pub depth_of : (content : ℕ) → ℕ
depth_of content = depth_by (content / content_vehicle % 2)

-- ---- a leaf's points

-- whether x is from lo to hi, borders included
unfoldable pub between : Float → Float → Float → Bool
between bb-min x hi = le bb-min x && le x hi

-- whether p is inside b in x and y
unfoldable pub inside : Aabb → Floats → Bool
inside b p = between b.min.x p.x b.max.x && between b.min.y p.y b.max.y

-- the number of the first of the boxes that p is inside; their count where it is in none
unfoldable pub leaf_of : List Aabb → Floats → ℕ
leaf_of [] p = 0
leaf_of (b ∷ bs) p = cond (inside b p) 0 (suc (leaf_of bs p))

-- the points that leaf k of these boxes stores, in the strip's order
unfoldable pub points_of : List Aabb → ℕ → List NavPoint → List NavPoint
points_of boxes k [] = []
points_of boxes k (p ∷ ps) = cond (eqb (leaf_of boxes (floats p.position)) k) (p ∷ points_of boxes k ps) (points_of boxes k ps)

-- ---- a leaf's polygon ids

-- on one axis: the polygon's max is not below the leaf's min, and its min not above the leaf's max
unfoldable pub axis_meets : (leafMin leafMax polyMin polyMax : ℤ) → Bool
axis_meets leafMin leafMax polyMin polyMax = le_z leafMin polyMax && le_z polyMin leafMax

-- whether a polygon's quarter box q meets a leaf's in x and y
unfoldable pub meets : (leaf q : QuarterBox) → Bool
meets leaf q =
    axis_meets leaf.x_min leaf.x_max q.x_min q.x_max
    && axis_meets leaf.y_min leaf.y_max q.y_min q.y_max

-- of the polygons from number k on, by their quarter boxes, the numbers of those that meet a leaf's
unfoldable pub leaf_ids : QuarterBox → ℕ → List QuarterBox → List ℕ
leaf_ids leaf k [] = []
leaf_ids leaf k (q ∷ qs) = cond (meets leaf q) (k ∷ leaf_ids leaf (k + 1) qs) (leaf_ids leaf (k + 1) qs)

-- ---- the tree

-- a leaf with its polygon ids and its points, or a sector with its subs
pub data Sector : Type 0 where
  leaf : Aabb → List ℕ → List NavPoint → Sector
  node : Aabb → Sector → Sector → Sector → Sector → Sector

abbrev pub quarters : Aabb → QuarterBox
quarters b = quarter_box b.min b.max

-- d splits below b; the leaves are numbered from k on, in writing order; `ids` gives a leaf's polygons by its quarter box, `stored` its points by its number
module _ (ids : QuarterBox → List ℕ) (stored : ℕ → List NavPoint) where
  unfoldable pub grown : ℕ → ℕ → Aabb → Sector
  grown zero k b = leaf b (ids (quarters b)) (stored k)
  grown (suc d) k b =
      node b
      (grown d k (sub0 b))
      (grown d (k + 4 ^ d) (sub1 b))
      (grown d (k + 2 * 4 ^ d) (sub2 b))
      (grown d (k + 3 * 4 ^ d) (sub3 b))

-- the tree of a cell's box, polygons and points
unfoldable pub tree_of : Head → List NavPoly → List NavPoint → Sector
tree_of h ps ts =
    grown (λ q. leaf_ids q 0 (map box_of ps)) (λ k. points_of (leaves (depth_of h.content) (root_box h)) k ts) (depth_of h.content) 0 (root_box h)

unfoldable pub point_count : Sector → ℕ
point_count (leaf b is ts) = length ts
point_count (node b t0 t1 t2 t3) = point_count t0 + (point_count t1 + (point_count t2 + point_count t3))

unfoldable pub byte_count : Sector → ℕ
byte_count (leaf b is ts) = sector_size + sector_data_size + 2 * length is + point_size * length ts
byte_count (node b t0 t1 t2 t3) = sector_size + (byte_count t0 + (byte_count t1 + (byte_count t2 + byte_count t3)))

-- each leaf's count of ids and of points, in writing order
unfoldable pub leaf_counts : Sector → List (ℕ × ℕ)
leaf_counts (leaf b is ts) = (length is, length ts) ∷ []
leaf_counts (node b t0 t1 t2 t3) = leaf_counts t0 ++ (leaf_counts t1 ++ (leaf_counts t2 ++ leaf_counts t3))

-- ---- records

-- the Rust's f32::NAN
abbrev pub nan_word : ℕ
nan_word = 0x7FC0_0000

-- three floats and the NaN
abbrev pub line : Floats → List (ℕ × ℕ)
line v = (4, to_bits binary32 v.x) ∷ (4, to_bits binary32 v.y) ∷ (4, to_bits binary32 v.z) ∷ (4, nan_word) ∷ []

abbrev pub quarter_row : QuarterBox → List (ℕ × ℕ)
quarter_row q =
    (2, bits16 q.x_min) ∷ (2, bits16 q.x_max) ∷ (2, bits16 q.y_min) ∷ (2, bits16 q.y_max)
    ∷ (2, bits16 q.z_min) ∷ (2, bits16 q.z_max) ∷ []

-- a sector, 96 bytes: min, NaN, max, NaN, quarter box, data address, four subs
abbrev pub sector_row : (b : Aabb) (data' s0 s1 s2 s3 : ℕ) → List (ℕ × ℕ)
sector_row b data' s0 s1 s2 s3 =
    line b.min ++ (line b.max ++ (quarter_row (quarters b) ++ ((8, data') ∷ (8, s0) ∷ (8, s1) ∷ (8, s2) ∷ (8, s3) ∷ (12, 0) ∷ [])))

-- a leaf's data, 32 bytes: first point number, ids, points, how many there are
abbrev pub data_row : (first ids points idCount point_count : ℕ) → List (ℕ × ℕ)
data_row first ids points idCount point_count =
    (4, first) ∷ (4, 0) ∷ (8, ids) ∷ (8, points) ∷ (2, idCount) ∷ (2, point_count) ∷ (4, 0) ∷ []

-- ---- sizes, and the ends before the blocks of a tree that is laid out behind `end`

unfoldable pub sizes : Sector → List ℕ
sizes (leaf b is ts) = sector_size ∷ (size_of (2 * length is) ++ (size_of (point_size * length ts) ++ (sector_data_size ∷ [])))
sizes (node b t0 t1 t2 t3) = sector_size ∷ (sizes t0 ++ (sizes t1 ++ (sizes t2 ++ sizes t3)))

-- before m ids, n points and the data of a leaf
abbrev pub ids_from : ℕ → ℕ
ids_from end = behind end sector_size

abbrev pub points_from : (end m : ℕ) → ℕ
points_from end m = end_of (ids_from end) (size_of (2 * m))

abbrev pub data_from : (end m n : ℕ) → ℕ
data_from end m n = end_of (points_from end m) (size_of (point_size * n))

-- before the subs of a sector
abbrev pub from0 : ℕ → ℕ
from0 end = behind end sector_size

abbrev pub from1 : ℕ → Sector → ℕ
from1 end t0 = end_of (from0 end) (sizes t0)

abbrev pub from2 : ℕ → Sector → Sector → ℕ
from2 end t0 t1 = end_of (from1 end t0) (sizes t1)

abbrev pub from3 : ℕ → Sector → Sector → Sector → ℕ
from3 end t0 t1 t2 = end_of (from2 end t0 t1) (sizes t2)

-- the address of a sector that is laid out behind `end`
abbrev pub sector_address : ℕ → ℕ
sector_address end = address (place_of end sector_size)

-- ---- blocks

module _ (bb-min bb-size : Floats) where
  -- a point, 8 bytes: shorts, angle, kind
  abbrev pub point_row : NavPoint → List (ℕ × ℕ)
  point_row p =
      (2, (shorts (floats p.position) bb-min bb-size).x) ∷ (2, (shorts (floats p.position) bb-min bb-size).y) ∷ (2, (shorts (floats p.position) bb-min bb-size).z)
      ∷ (1, p.angle) ∷ (1, p.kind) ∷ []

  unfoldable pub point_items : List NavPoint → List (List ℕ)
  point_items ts = map (λ t. row_bytes (point_row t)) ts

  -- a leaf's, whose first point has the number `first`, and which has m ids and n points: its sector before its ids, points, data
  unfoldable pub leaf_blocks : (end first m n : ℕ) → Aabb → List ℕ → List NavPoint → List (List ℕ)
  leaf_blocks end first m n b is ts =
      row_bytes (sector_row b (address (place_of (data_from end m n) sector_data_size)) 0 0 0 0)
      ∷ (block_of (les 2 is) ++ (block_of (cat (point_items ts))
      ++ (row_bytes (data_row first (address_of (ids_from end) (2 * m)) (address_of (points_from end m) (point_size * n)) m n) ∷ [])))

  -- a tree's, whose first point has the number `first`: a sector's block before its subs'
  unfoldable pub tree_blocks : (end first : ℕ) → Sector → List (List ℕ)
  tree_blocks end first (leaf b is ts) = leaf_blocks end first (length is) (length ts) b is ts
  tree_blocks end first (node b t0 t1 t2 t3) =
      row_bytes
      (sector_row b 0 (sector_address (from0 end)) (sector_address (from1 end t0)) (sector_address (from2 end t0 t1)) (sector_address (from3 end t0 t1 t2)))
      ∷ (tree_blocks (from0 end) first t0
      ++ (tree_blocks (from1 end t0) (first + point_count t0) t1
      ++ (tree_blocks (from2 end t0 t1) (first + (point_count t0 + point_count t1)) t2
      ++ tree_blocks (from3 end t0 t1 t2) (first + (point_count t0 + (point_count t1 + point_count t2))) t3)))
