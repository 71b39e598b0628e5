-- Laws of a polygon's sides: it doesn't matter which way a side goes, which vertex comes first, nor which way round they come; fewer than 3 vertices contain
-- nothing; and what lies on the far sides of the cell's box is in no polygon. Assumes nothing.
use Prim.Native.Nat.{◌+◌, ◌-◌, ◌*◌, ◌%◌, ◌≤◌, ◌<◌}
use mathlib.Core.Path.{◌≡◌, refl}
use mathlib.Core.Bool.{Bool, true, false, cond}
use mathlib.Core.List.{List, [], ◌∷◌, ◌++◌, map, reverse, reverse-cons}
use native.Mathlib.Omega.{arith}
use lib.ListN.{length, length-map}
use native.Mathlib.Nat.{mul-le-mul_right, mul-add}
use lib.Dec.{leb}
use lib.Ieee.{binary32, of_bits}
use borrow.Author.Tests.{le-ltb, le-leb, leb-true, leb-false}
use Rattle.quantise.proofs.Capped.{short_lt}
use Rattle.strip.specs.Cell.{NavPoly, Head}
use Rattle.strip.specs.Fits.{All}
use Rattle.strip.proofs.Alls.{all_images}
use Rattle.pick_contains.specs.declared.Spot.{Spot}
use Rattle.strip.specs.Tests.{one_if}
use Rattle.pick_contains.specs.Inside.{left_of, crossed, crossings, last_of, inside}
use Rattle.picking.specs.Picking.{spot_of, contains}
use Rattle.picking.proofs.Whole.{not_crossed}

-- a side is crossed or not whichever way it goes
pub either_way : (s a b : Spot) → crossed s a b ≡ crossed s b a
unfolding crossed
either_way s a b = by (leb a.y s.y) (leb b.y s.y)
  where
    by : (p q : Bool) → cond p (cond q false (left_of s a b)) (cond q (left_of s b a) false) ≡ cond q (cond p false (left_of s b a)) (cond p (left_of s a b) false)
    by true true = refl
    by true false = refl
    by false true = refl
    by false false = refl

-- a walk along a list of vertices and on along another
crossings_append : (s from : Spot) (vs ws : List Spot) → crossings s from (vs ++ ws) ≡ crossings s from vs + crossings s (last_of from vs) ws
unfolding crossings last_of
crossings_append s from [] ws = omega arith
crossings_append s from (v ∷ vs) ws = omega (arith, crossings_append s v vs ws)

last_append : (from v : Spot) (vs : List Spot) → last_of from (vs ++ (v ∷ [])) ≡ v
unfolding last_of
last_append from v [] = refl
last_append from v (u ∷ vs) = last_append u v vs

-- it doesn't matter which vertex comes first
pub turned : (s v : Spot) (vs : List Spot) → inside s (v ∷ vs) ≡ inside s (vs ++ (v ∷ []))
unfolding inside crossings last_of
turned s v vs =
    let e : crossings s v vs + crossings s (last_of v vs) (v ∷ []) ≡ crossings s (last_of v vs) (v ∷ vs) = omega arith in
    rw (last_append s v vs, crossings_append s v vs (v ∷ []), e)

-- the walk from v back to w crosses as many sides as the one from w to v
walk_back : (s v w : Spot) (vs : List Spot) → crossings s v (reverse vs ++ (w ∷ [])) ≡ crossings s w (vs ++ (v ∷ []))
unfolding crossings
walk_back s v w [] = rw (either_way s v w)
walk_back s v w (u ∷ vs) =
    rw (reverse-cons u vs, crossings_append s v (reverse vs ++ (u ∷ [])) (w ∷ []), last_append v u (reverse vs), walk_back s v u vs, either_way s u w) (omega arith)

-- nor which way round they come
pub backwards : (s : Spot) (vs : List Spot) → inside s (reverse vs) ≡ inside s vs
unfolding inside
backwards s [] = refl
backwards s (v ∷ vs) = rw (turned s v vs, reverse-cons v vs, last_append s v (reverse vs), last_append s v vs, walk_back s v v vs)

-- fewer than 3 sides are crossed an even number of times
twice : (t : Bool) → (one_if t + (one_if t + 0)) % 2 ≡ 0
twice true = refl
twice false = refl

few_sides : (s : Spot) (vs : List Spot) → length vs < 3 → crossings s (last_of s vs) vs % 2 ≡ 0
unfolding crossings last_of
few_sides s [] h = refl
few_sides s (a ∷ []) h = rw (not_crossed s a a refl)
few_sides s (a ∷ b ∷ []) h = rw (either_way s b a) (twice (crossed s a b))
few_sides s (a ∷ b ∷ c ∷ vs) h = absurd (omega arith)

-- so fewer than 3 vertices contain nothing
pub few_vertices : (h : Head) (s : Spot) (p : NavPoly) → length p.vertices < 3 → contains h s p ≡ false
unfolding inside
few_vertices h s p k = rw (few_sides s (map (spot_of h) p.vertices) (rw (length-map p.vertices (spot_of h)) k))

-- A spot that is left of no vertex, or below none, is in no polygon. `P` says so of a vertex.
module _ (s : Spot) (P : Spot → Type 0) (passed : (a b : Spot) → P a → P b → crossed s a b ≡ false) where
  none_crossed : (from : Spot) (vs : List Spot) → P from → All P vs → crossings s from vs ≡ 0
  unfolding crossings
  none_crossed from [] h k = refl
  none_crossed from (v ∷ vs) h (l, k) = rw (passed from v h l, none_crossed v vs l k)

  last_passed : (from : Spot) (vs : List Spot) → P from → All P vs → P (last_of from vs)
  unfolding last_of
  last_passed from [] h k = h
  last_passed from (v ∷ vs) h (l, k) = last_passed v vs l k

  not_inside : (vs : List Spot) → P s → All P vs → inside s vs ≡ false
  unfolding inside
  not_inside vs h k = rw (none_crossed (last_of s vs) vs (last_passed s vs h k) k)

module _ (s : Spot) where
  not_left : (low high : Spot) → low.y ≤ s.y → s.y < high.y → low.x ≤ s.x → high.x ≤ s.x → left_of s low high ≡ false
  unfolding left_of
  not_left low high h k l r =
      let i = mul-le-mul_right (high.y - s.y) l in
      let j = mul-le-mul_right (s.y - low.y) r in
      let e : high.y - low.y ≡ (high.y - s.y) + (s.y - low.y) = omega arith in
      le-ltb (s.x * (high.y - low.y)) (low.x * (high.y - s.y) + high.x * (s.y - low.y))
      (rw (e, mul-add s.x (high.y - s.y) (s.y - low.y)) (omega (arith, i, j)))

  passed_right : (a b : Spot) → a.x ≤ s.x → b.x ≤ s.x → crossed s a b ≡ false
  unfolding crossed
  passed_right a b h k = by (leb a.y s.y) (leb b.y s.y) refl refl
    where
      by : (p q : Bool) → leb a.y s.y ≡ p → leb b.y s.y ≡ q → cond p (cond q false (left_of s a b)) (cond q (left_of s b a) false) ≡ false
      by true true e f = refl
      by true false e f = not_left a b (leb-true a.y s.y e) (leb-false b.y s.y f) h k
      by false true e f = not_left b a (leb-true b.y s.y f) (leb-false a.y s.y e) k h
      by false false e f = refl

  passed_above : (a b : Spot) → a.y ≤ s.y → b.y ≤ s.y → crossed s a b ≡ false
  passed_above a b h k = not_crossed s a b (rw (le-leb a.y s.y h, le-leb b.y s.y k))

-- so what lies on the far sides of the cell's box, where shorts are 65535, is in none of its polygons
module _ (h : Head) (s : Spot) (p : NavPoly) where
  pub far_right : 65535 ≤ s.x → contains h s p ≡ false
  far_right k =
      not_inside s (λ v. v.x ≤ s.x) (passed_right s) (map (spot_of h) p.vertices) (omega arith)
      (all_images (λ v. v.x ≤ s.x) (spot_of h) (λ v. omega (arith, short_lt (of_bits binary32 v.x) (of_bits binary32 h.bb_min.x) (of_bits binary32 h.bb_size.x))) p.vertices)

  pub far_above : 65535 ≤ s.y → contains h s p ≡ false
  far_above k =
      not_inside s (λ v. v.y ≤ s.y) (passed_above s) (map (spot_of h) p.vertices) (omega arith)
      (all_images (λ v. v.y ≤ s.y) (spot_of h) (λ v. omega (arith, short_lt (of_bits binary32 v.y) (of_bits binary32 h.bb_min.y) (of_bits binary32 h.bb_size.y))) p.vertices)
