-- What the sectors take from lent words: three to a polygon's quarter box, one to a point's leaf. The tree that they make. Definitions only.
use Rattle.std.specs.Prelude.{ℕ, zero, suc, ◌+◌, ◌*◌, ◌/◌, ◌%◌, ◌≡◌, cond, List, [], ◌∷◌, length, get_or, eqb}
use Rattle.quarters.specs.Quarter.{bits16}
use Rattle.quarters.specs.Int16.{int16}
use Rattle.quarters.specs.declared.quarter.QuarterBox.{QuarterBox}
use Rattle.quarters.specs.declared.bounds.Aabb.{Aabb}
use Rattle.strip.specs.Cell.{NavPoly, NavPoint}
use Rattle.strip.specs.Reading.{items_at}
use Rattle.write_pages.specs.Items.{floats, box_of}
use Rattle.write_pages.specs.Sectors.{Sector, leaf_of, leaf_ids, grown}

-- the quarter box whose axes are three words, min below and max above
abbrev pub box_by : (x y z : ℕ) → QuarterBox
box_by x y z = record {
  x_min = int16 (x % 65536);
  x_max = int16 (x / 65536);
  y_min = int16 (y % 65536);
  y_max = int16 (y / 65536);
  z_min = int16 (z % 65536);
  z_max = int16 (z / 65536);
}

abbrev pub box_at : List ℕ → ℕ → QuarterBox
box_at w at = box_by (get_or w at 0) (get_or w (at + 1) 0) (get_or w (at + 2) 0)

abbrev pub boxes_at : List ℕ → ℕ → ℕ → List QuarterBox
boxes_at w = items_at (box_at w) (λ at. at + 3)

-- all that the words hold
abbrev pub boxes_in : List ℕ → List QuarterBox
boxes_in w = boxes_at w 0 (length w / 3)

-- of the points ts, the first of them number i, those that have the leaf k by their words
unfoldable pub picked_from : List ℕ → ℕ → ℕ → List NavPoint → List NavPoint
picked_from w k i [] = []
picked_from w k i (t ∷ ts) = cond (eqb (get_or w i 0) k) (t ∷ picked_from w k (i + 1) ts) (picked_from w k (i + 1) ts)

-- how many there are of n points from number i on
unfoldable pub count_in : List ℕ → ℕ → ℕ → ℕ → ℕ
count_in w k i zero = 0
count_in w k i (suc n) = cond (eqb (get_or w i 0) k) 1 0 + count_in w k (i + 1) n

-- the tree of the polygons with these quarter boxes and the points ts with these leaves
abbrev pub tree_by : (boxes numbers : List ℕ) → List NavPoint → ℕ → ℕ → Aabb → Sector
tree_by boxes numbers ts = grown (λ (q : QuarterBox). leaf_ids q 0 (boxes_in boxes)) (λ (k : ℕ). picked_from numbers k 0 ts)

-- ---- what the writer's first pass leaves

-- the three words at a place hold a quarter box
pub record BoxHeld (w : List ℕ) (at : ℕ) (q : QuarterBox) : Type 0 where
  pub x : get_or w at 0 ≡ bits16 q.x_min + 65536 * bits16 q.x_max
  pub y : get_or w (at + 1) 0 ≡ bits16 q.y_min + 65536 * bits16 q.y_max
  pub z : get_or w (at + 2) 0 ≡ bits16 q.z_min + 65536 * bits16 q.z_max

-- the words from a place on hold the polygons' quarter boxes
abbrev pub BoxesHeld : List ℕ → ℕ → List NavPoly → Type 0
BoxesHeld w at [] = Unit
BoxesHeld w at (p ∷ ps) = BoxHeld w at (box_of p) × BoxesHeld w (at + 3) ps

-- the words from number i on hold the leaves that take the points, of these boxes
abbrev pub LeavesHeld : List Aabb → List ℕ → ℕ → List NavPoint → Type 0
LeavesHeld boxes w i [] = Unit
LeavesHeld boxes w i (t ∷ ts) = (get_or w i 0 ≡ leaf_of boxes (floats t.position)) × LeavesHeld boxes w (i + 1) ts
