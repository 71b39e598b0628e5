-- Where the words hold the polygons' quarter boxes and the points' leaves, the tree by the words is the cell's. Assumes nothing.
use Prim.Native.Nat.{ℕ, zero, suc, ◌+◌, ◌*◌, ◌/◌, ◌^◌, ◌<◌}
use mathlib.Core.Path.{◌≡◌, refl, ap, ◌∙◌}
use mathlib.Core.Bool.{true, false}
use mathlib.Core.List.{List, [], ◌∷◌, map}
use native.Mathlib.Omega.{arith}
use lib.ListN.{length, get_or}
use lib.Signed.{mag}
use Rattle.quarters.specs.declared.quarter.QuarterBox.{QuarterBox}
use Rattle.quarters.specs.declared.bounds.Aabb.{Aabb}
use Rattle.quarters.proofs.Quarters.{side_fits}
use Rattle.strip.specs.Cell.{NavPoly, NavPoint, Head}
use Rattle.strip.specs.Reading.{items_at}
use Rattle.write_pages.specs.Items.{box_of}
use Rattle.write_pages.specs.Sectors.{Sector, leaves, points_of, leaf_ids, grown, tree_of, depth_of, root_box, quarters, sub0, sub1, sub2, sub3}
use Rattle.write_leaf_counts.specs.Work.{box_at, boxes_at, boxes_in, picked_from, tree_by, BoxHeld, BoxesHeld, LeavesHeld}
use Rattle.write_leaf_counts.proofs.Picks.{low_side, high_side}

-- ---- quarter boxes

-- the sides of a polygon's box are 16 signed bits, since they are sides of floats
record In16Bits (q : QuarterBox) : Type 0 where
  x_min : mag q.x_min < 32768
  x_max : mag q.x_max < 32768
  y_min : mag q.y_min < 32768
  y_max : mag q.y_max < 32768
  z_min : mag q.z_min < 32768
  z_max : mag q.z_max < 32768

polygon_fits : (p : NavPoly) → In16Bits (box_of p)
unfolding box_of
polygon_fits p =
    record {
      x_min = side_fits false _;
      x_max = side_fits true _;
      y_min = side_fits false _;
      y_max = side_fits true _;
      z_min = side_fits false _;
      z_max = side_fits true _;
    }

box_held : (w : List ℕ) (at : ℕ) (q : QuarterBox) → In16Bits q → BoxHeld w at q → box_at w at ≡ q
box_held w at q f h =
    rw (
      low_side q.x_min q.x_max f.x_min f.x_max (get_or w at 0) h.x,
      high_side q.x_min q.x_max f.x_min f.x_max (get_or w at 0) h.x,
      low_side q.y_min q.y_max f.y_min f.y_max (get_or w (at + 1) 0) h.y,
      high_side q.y_min q.y_max f.y_min f.y_max (get_or w (at + 1) 0) h.y,
      low_side q.z_min q.z_max f.z_min f.z_max (get_or w (at + 2) 0) h.z,
      high_side q.z_min q.z_max f.z_min f.z_max (get_or w (at + 2) 0) h.z,
    )

pub boxes_held : (w : List ℕ) (at : ℕ) (ps : List NavPoly) → BoxesHeld w at ps → boxes_at w at (length ps) ≡ map box_of ps
unfolding items_at
boxes_held w at [] h = refl
boxes_held w at (p ∷ ps) h = rw (box_held w at (box_of p) (polygon_fits p) h.0, boxes_held w (at + 3) ps h.1)

-- ---- points

pub points_held : (boxes : List Aabb) (w : List ℕ) (k i : ℕ) (ts : List NavPoint) → LeavesHeld boxes w i ts → picked_from w k i ts ≡ points_of boxes k ts
unfolding picked_from points_of
points_held boxes w k i [] h = refl
points_held boxes w k i (t ∷ ts) h = rw (h.0, points_held boxes w k (i + 1) ts h.1)

-- ---- the tree

module _ (ids : QuarterBox → List ℕ) (stored also : ℕ → List NavPoint) (same : (k : ℕ) → stored k ≡ also k) where
  pub grown_same : (d k : ℕ) (b : Aabb) → grown ids stored d k b ≡ grown ids also d k b
  unfolding grown
  grown_same zero k b = ap (Sector.leaf b (ids (quarters b))) (same k)
  grown_same (suc d) k b =
      rw (
        grown_same d k (sub0 b),
        grown_same d (k + 4 ^ d) (sub1 b),
        grown_same d (k + 2 * 4 ^ d) (sub2 b),
        grown_same d (k + 3 * 4 ^ d) (sub3 b),
      )

pub tree_held : (h : Head) (ps : List NavPoly) (ts : List NavPoint) (boxes numbers : List ℕ) → length boxes ≡ 3 * length ps → BoxesHeld boxes 0 ps
    → LeavesHeld (leaves (depth_of h.content) (root_box h)) numbers 0 ts → tree_by boxes numbers ts (depth_of h.content) 0 (root_box h) ≡ tree_of h ps ts
unfolding tree_of
tree_held h ps ts boxes numbers l b v =
    let n : length boxes / 3 ≡ length ps = omega arith in
    let e : boxes_in boxes ≡ map box_of ps = ap (boxes_at boxes 0) n ∙ boxes_held boxes 0 ps b in
    grown_same (λ (q : QuarterBox). leaf_ids q 0 (boxes_in boxes)) (λ (k : ℕ). picked_from numbers k 0 ts) (λ (k : ℕ). points_of (leaves (depth_of h.content) (root_box h)) k ts)
    (λ k. points_held (leaves (depth_of h.content) (root_box h)) numbers k 0 ts v) (depth_of h.content) 0 (root_box h)
    ∙ ap (λ (qs : List QuarterBox). grown (λ (q : QuarterBox). leaf_ids q 0 qs) (λ (k : ℕ). points_of (leaves (depth_of h.content) (root_box h)) k ts) (depth_of h.content) 0 (root_box h)) e
