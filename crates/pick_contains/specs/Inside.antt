-- Whether a spot lies inside a polygon (document 02, No. 1): the even-odd rule on shorts. Definitions only.
use Rattle.std.specs.Prelude.{ℕ, ◌+◌, ◌-◌, ◌*◌, ◌%◌, Bool, false, cond, List, [], ◌∷◌, eqb, leb, ltb}
use Rattle.strip.specs.Tests.{one_if}
use Rattle.pick_contains.specs.declared.Spot.{Spot}

-- "strictly left of the side at height y, decided in whole numbers": of the side's ends `low` is not above the spot and `high` is, so there the
-- side stands at (low.x (high.y - y) + high.x (y - low.y)) / (high.y - low.y), and both sides of the comparison are multiplied by its height.
unfoldable pub left_of : (spot low high : Spot) → Bool
left_of s low high = ltb (s.x * (high.y - low.y)) (low.x * (high.y - s.y) + high.x * (s.y - low.y))

-- "crossed when exactly one of y1 ≤ y and y2 ≤ y holds and the spot is strictly left of the side": which end is the low one turns the comparison round
unfoldable pub crossed : (spot from to : Spot) → Bool
crossed s a b =
    cond (leb a.y s.y)
    (cond (leb b.y s.y) false (left_of s a b))
    (cond (leb b.y s.y) (left_of s b a) false)

-- how many sides are crossed of those from `from` to the first vertex, and on from vertex to vertex
unfoldable pub crossings : (spot from : Spot) → List Spot → ℕ
crossings s from [] = 0
crossings s from (v ∷ vs) = one_if (crossed s from v) + crossings s v vs

-- the last of the vertices, or what is given where there is none
unfoldable pub last_of : Spot → List Spot → Spot
last_of from [] = from
last_of from (v ∷ vs) = last_of v vs

-- "the last vertex joining the first", "an odd number of crossings is inside"
unfoldable pub inside : (spot : Spot) → List Spot → Bool
inside s vs = eqb (crossings s (last_of s vs) vs % 2) 1
