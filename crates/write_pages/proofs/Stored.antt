-- Each point of a cell is stored in the first leaf that contains it, or dropped where none does. Assumes nothing.
use Prim.Native.Nat.{ℕ, zero, suc, ◌+◌, ◌*◌, ◌^◌, ◌≤◌, ◌<◌}
use mathlib.Core.Path.{◌≡◌, refl, sym, ap, ◌∙◌}
use mathlib.Core.Bool.{Bool, true, false, cond, false≢true}
use mathlib.Core.List.{List, [], ◌∷◌, ◌++◌}
use native.Mathlib.Omega.{arith}
use native.Mathlib.Nat.{pow-suc}
use borrow.Author.Tests.{eq-eqb, ne_eqb, eqb-true}
use lib.Dec.{eqb, eqb-zero-suc, eqb-suc-suc}
use lib.ListN.{length, length-append}
use Rattle.math.specs.declared.vec3.Vec3.{Vec3 as Floats}
use Rattle.quarters.specs.declared.quarter.QuarterBox.{QuarterBox}
use Rattle.quarters.specs.declared.bounds.Aabb.{Aabb}
use Rattle.strip.specs.Cell.{NavPoint, Cell}
use Rattle.strip.specs.Fits.{All}
use Rattle.write_pages.specs.Items.{floats}
use Rattle.write_pages.specs.Sectors.{Sector, inside, leaf_of, points_of, leaves, grown, tree_of, point_count, depth_of, root_box, sub0, sub1, sub2, sub3}
use Rattle.write_pages.specs.Preorder.{preorder}
use Rattle.write_pages.specs.Sectors.Sector.{leaf, node}
use Rattle.write_pages.specs.Pages.{sectors}
use Rattle.write_pages.proofs.Lists.{keep_length}
use Rattle.write_pages.proofs.LeafCounts.{length_grown}
use Rattle.write_pages.specs.PointCounts.{leaf_boxes, stored_count, in_none, outside_of, dropped, dropped_count}
use Rattle.write_pages.specs.Stored.{FirstIn, Outside, leaf_list, numbered}

-- ---- sums: of f at n numbers from k on

abbrev total : (ℕ → ℕ) → ℕ → ℕ → ℕ
total f k zero = 0
total f k (suc n) = f k + total f (k + 1) n

total_parts : (f : ℕ → ℕ) (k m n : ℕ) → total f k (m + n) ≡ total f k m + total f (k + m) n
total_parts f k zero n =
    let e : 0 + n ≡ n = omega arith in
    let g : k + 0 ≡ k = omega arith in
    rw (e, g) (omega arith)
total_parts f k (suc m) n =
    let e : suc m + n ≡ suc (m + n) = omega arith in
    let g : k + suc m ≡ k + 1 + m = omega arith in
    rw (e, g) (omega (arith, total_parts f (k + 1) m n))

-- of two that are one more at l alone
module _ (f g : ℕ → ℕ) (l : ℕ) (more : (j : ℕ) → f j ≡ cond (eqb l j) 1 0 + g j) where
  elsewhere : (j : ℕ) → (l ≡ j → ⊥) → f j ≡ g j
  elsewhere j h = more j ∙ rw (ne_eqb l j h) (omega arith)

  total_after : (k n : ℕ) → l < k → total f k n ≡ total g k n
  total_after k zero h = refl
  total_after k (suc n) h = omega (arith, elsewhere k (λ e. omega arith), total_after (k + 1) n (omega arith))

  total_more : (k n i : ℕ) → l ≡ k + i → i < n → total f k n ≡ suc (total g k n)
  total_more k zero i e h = absurd (omega arith)
  total_more k (suc n) zero e h =
      let here : f k ≡ suc (g k) = more k ∙ rw (eq-eqb l k (omega arith)) (omega arith) in
      omega (arith, total_after (k + 1) n (omega arith))
  total_more k (suc n) (suc i) e h = omega (arith, elsewhere k (λ q. omega arith), total_more (k + 1) n i (omega arith) (omega arith))

total_none : (f : ℕ → ℕ) → ((j : ℕ) → f j ≡ 0) → (k n : ℕ) → total f k n ≡ 0
total_none f h k zero = refl
total_none f h k (suc n) = omega (arith, h k, total_none f h (k + 1) n)

-- ---- points, of which each is in one of the boxes or in none

leaf_most : (boxes : List Aabb) (p : Floats) → leaf_of boxes p ≤ length boxes
unfolding leaf_of
leaf_most [] p = omega arith
leaf_most (b ∷ bs) p = by (inside b p) (leaf_most bs p)
  where
    by : (t : Bool) → leaf_of bs p ≤ length bs → cond t 0 (suc (leaf_of bs p)) ≤ suc (length bs)
    by true h = omega arith
    by false h = omega arith

points_total : (boxes : List Aabb) (ts : List NavPoint) → total (λ k. length (points_of boxes k ts)) 0 (length boxes + 1) ≡ length ts
unfolding points_of
points_total boxes [] = total_none (λ k. 0) (λ k. refl) 0 (length boxes + 1)
points_total boxes (t ∷ ts) =
    let l : ℕ = leaf_of boxes (floats t.position) in
    total_more (λ k. length (points_of boxes k (t ∷ ts))) (λ k. length (points_of boxes k ts)) l
    (λ k. keep_length (eqb l k) t (points_of boxes k ts)) 0 (length boxes + 1) l (omega arith) (omega (arith, leaf_most boxes (floats t.position)))
    ∙ ap suc (points_total boxes ts)

-- ---- a tree

boxes_length : (d : ℕ) (b : Aabb) → length (leaves d b) ≡ 4 ^ d
unfolding leaves
boxes_length d = length_grown (λ d k b. leaves d b) (λ k b. refl) (λ d k b. refl) d 0

tree_total : (ids : QuarterBox → List ℕ) (stored : ℕ → List NavPoint) (d k : ℕ) (b : Aabb)
    → point_count (grown ids stored d k b) ≡ total (λ j. length (stored j)) k (4 ^ d)
unfolding grown point_count
tree_total ids stored zero k b = omega arith
tree_total ids stored (suc d) k b =
    let n : ℕ = 4 ^ d in
    let f : ℕ → ℕ = λ j. length (stored j) in
    let e : 4 ^ suc d ≡ n + (n + (n + n)) = omega (arith, pow-suc 4 d) in
    let k2 : k + n + n ≡ k + 2 * n = omega arith in
    let k3 : k + 2 * n + n ≡ k + 3 * n = omega arith in
    rw (
      e,
      total_parts f k n (n + (n + n)),
      total_parts f (k + n) n (n + n),
      k2,
      total_parts f (k + 2 * n) n n,
      k3,
      tree_total ids stored d k (sub0 b),
      tree_total ids stored d (k + n) (sub1 b),
      tree_total ids stored d (k + 2 * n) (sub2 b),
      tree_total ids stored d (k + 3 * n) (sub3 b),
    )

pub length_preorder : (t : Sector) → length (preorder t) ≡ point_count t
unfolding preorder point_count
length_preorder (leaf b is ts) = refl
length_preorder (node b t0 t1 t2 t3) =
    rw (length-append (preorder t3), length-append (preorder t2), length-append (preorder t1))
    (omega (arith, length_preorder t0, length_preorder t1, length_preorder t2, length_preorder t3))

-- ---- which leaf has which points

numbered_parts : (stored : ℕ → List NavPoint) (k : ℕ) (xs ys : List Aabb) → numbered stored k (xs ++ ys) ≡ numbered stored k xs ++ numbered stored (k + length xs) ys
unfolding numbered
numbered_parts stored k [] ys = let e : k + 0 ≡ k = omega arith in rw e
numbered_parts stored k (x ∷ xs) ys =
    let e : k + suc (length xs) ≡ k + 1 + length xs = omega arith in
    ap (λ (l : List (Aabb × List NavPoint)). (x, stored k) ∷ l) (numbered_parts stored (k + 1) xs ys ∙ rw e)

leaves_numbered : (ids : QuarterBox → List ℕ) (stored : ℕ → List NavPoint) (d k : ℕ) (b : Aabb) → leaf_list (grown ids stored d k b) ≡ numbered stored k (leaves d b)
unfolding grown leaf_list numbered leaves
leaves_numbered ids stored zero k b = refl
leaves_numbered ids stored (suc d) k b =
    let n : ℕ = 4 ^ d in
    let k2 : k + n + n ≡ k + 2 * n = omega arith in
    let k3 : k + 2 * n + n ≡ k + 3 * n = omega arith in
    rw (
      numbered_parts stored k (leaves d (sub0 b)),
      boxes_length d (sub0 b),
      numbered_parts stored (k + n) (leaves d (sub1 b)),
      boxes_length d (sub1 b),
      k2,
      numbered_parts stored (k + 2 * n) (leaves d (sub2 b)),
      boxes_length d (sub2 b),
      k3,
      leaves_numbered ids stored d k (sub0 b),
      leaves_numbered ids stored d (k + n) (sub1 b),
      leaves_numbered ids stored d (k + 2 * n) (sub2 b),
      leaves_numbered ids stored d (k + 3 * n) (sub3 b),
    )

first_in : (boxes : List Aabb) (p : Floats) (k : ℕ) → leaf_of boxes p ≡ k → k < length boxes → FirstIn boxes k p
unfolding leaf_of
first_in [] p k e h = omega arith
first_in (b ∷ bs) p k e h = by (inside b p) refl k e h (first_in bs p)
  where
    by : (t : Bool) → inside b p ≡ t → (j : ℕ) → cond t 0 (suc (leaf_of bs p)) ≡ j → j < suc (length bs)
        → ((i : ℕ) → leaf_of bs p ≡ i → i < length bs → FirstIn bs i p) → FirstIn (b ∷ bs) j p
    by true s zero f g rest = s
    by true s (suc j) f g rest = absurd (omega arith)
    by false s zero f g rest = absurd (omega arith)
    by false s (suc j) f g rest = (s, rest j (omega arith) (omega arith))

outside_all : (boxes : List Aabb) (p : Floats) → in_none boxes p ≡ true → Outside boxes p
unfolding in_none
outside_all [] p e = tt
outside_all (b ∷ bs) p e = by (inside b p) refl e (outside_all bs p)
  where
    by : (t : Bool) → inside b p ≡ t → cond t false (in_none bs p) ≡ true → (in_none bs p ≡ true → Outside bs p) → Outside (b ∷ bs) p
    by true s f rest = absurd (false≢true f)
    by false s f rest = (s, rest f)

-- a position lies in no box exactly when `leaf_of` answers the count of the boxes
none_last : (boxes : List Aabb) (p : Floats) → in_none boxes p ≡ eqb (leaf_of boxes p) (length boxes)
unfolding in_none leaf_of
none_last [] p = refl
none_last (b ∷ bs) p = by (inside b p) (none_last bs p)
  where
    by : (t : Bool) → in_none bs p ≡ eqb (leaf_of bs p) (length bs) → cond t false (in_none bs p) ≡ eqb (cond t 0 (suc (leaf_of bs p))) (suc (length bs))
    by true e = sym (eqb-zero-suc (length bs))
    by false e = e ∙ sym (eqb-suc-suc (leaf_of bs p) (length bs))

outside_last : (boxes : List Aabb) (ts : List NavPoint) → outside_of boxes ts ≡ points_of boxes (length boxes) ts
unfolding outside_of points_of
outside_last boxes [] = refl
outside_last boxes (t ∷ ts) = rw (none_last boxes (floats t.position), outside_last boxes ts)

-- what holds where `leaf_of` answers k holds of the points of number k
points_have : (P : Floats → Type 0) (boxes : List Aabb) (k : ℕ) → ((p : Floats) → leaf_of boxes p ≡ k → P p) → (ts : List NavPoint)
    → All (λ t. P (floats t.position)) (points_of boxes k ts)
unfolding points_of
points_have P boxes k h [] = tt
points_have P boxes k h (t ∷ ts) = by (eqb (leaf_of boxes (floats t.position)) k) refl (points_have P boxes k h ts)
  where
    by : (e : Bool) → eqb (leaf_of boxes (floats t.position)) k ≡ e → All (λ t. P (floats t.position)) (points_of boxes k ts)
        → All (λ t. P (floats t.position)) (cond e (t ∷ points_of boxes k ts) (points_of boxes k ts))
    by true e rest = (h (floats t.position) (eqb-true (leaf_of boxes (floats t.position)) k e), rest)
    by false e rest = rest

-- ---- a cell

-- "together they make the points of the strip"
pub stored_and_dropped : (c : Cell) → stored_count c + dropped_count c ≡ length c.points
unfolding sectors tree_of dropped
stored_and_dropped c =
    let boxes = leaf_boxes c in
    let f : ℕ → ℕ = λ k. length (points_of boxes k c.points) in
    let d : ℕ = depth_of c.head.content in
    let stored : point_count (sectors c) ≡ total f 0 (4 ^ d) = tree_total _ _ d 0 (root_box c.head) in
    let many : length boxes ≡ 4 ^ d = boxes_length d (root_box c.head) in
    let all : total f 0 (length boxes + 1) ≡ length c.points = points_total boxes c.points in
    let apart : total f 0 (length boxes + 1) ≡ total f 0 (length boxes) + total f (0 + length boxes) 1 = total_parts f 0 (length boxes) 1 in
    let same : total f 0 (length boxes) ≡ total f 0 (4 ^ d) = ap (total f 0) many in
    let z : 0 + length boxes ≡ length boxes = omega arith in
    let last : total f (0 + length boxes) 1 ≡ f (length boxes) = rw z (omega arith) in
    let none : length (outside_of boxes c.points) ≡ f (length boxes) = ap length (outside_last boxes c.points) in
    omega arith

pub stored_at_most : (c : Cell) → stored_count c ≤ length c.points
stored_at_most c = omega (arith, stored_and_dropped c)

-- The leaves in writing order are the boxes that the root's splits into, each with the points of its number; those lie in it and in none before it, and the
-- dropped ones in none.
pub leaves_stored : (c : Cell) → leaf_list (sectors c) ≡ numbered (λ k. points_of (leaf_boxes c) k c.points) 0 (leaf_boxes c)
unfolding sectors tree_of
leaves_stored c = leaves_numbered _ _ (depth_of c.head.content) 0 (root_box c.head)

pub stored_first : (c : Cell) (k : ℕ) → k < length (leaf_boxes c) → All (λ t. FirstIn (leaf_boxes c) k (floats t.position)) (points_of (leaf_boxes c) k c.points)
stored_first c k h = points_have (FirstIn (leaf_boxes c) k) (leaf_boxes c) k (λ p e. first_in (leaf_boxes c) p k e h) c.points

pub dropped_outside : (c : Cell) → All (λ t. Outside (leaf_boxes c) (floats t.position)) (dropped c)
unfolding dropped
dropped_outside c =
    let boxes = leaf_boxes c in
    let none : (p : Floats) → leaf_of boxes p ≡ length boxes → Outside boxes p = λ p e. outside_all boxes p (none_last boxes p ∙ eq-eqb (leaf_of boxes p) (length boxes) e) in
    rw (outside_last boxes c.points) (points_have (Outside boxes) boxes (length boxes) none c.points)
