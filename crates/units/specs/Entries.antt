-- What the C entries answer where a leaf answers an enum or a struct: the numbers that stand for it. Definitions only.
use Rattle.std.specs.Prelude.{ℕ, zero, suc, ◌*◌, cond, List, [], ◌∷◌, ◌++◌, length, get_or, ltb, eqb, ℤ, Float}
use Rattle.math.specs.declared.vec3.Vec3.{Vec3}
use Rattle.math.specs.Floats.{floats_at}
use Rattle.quantise.specs.Short.{short}
use Rattle.quarters.specs.Quarter.{quarter_floor, quarter_ceil}
use Rattle.strip.specs.Outcome.{Paper, refusal, values}
use Rattle.strip.specs.declared.Counts.{Counts}

-- the floor or the ceiling of 4 * x
abbrev pub side_of : Float → ℕ → ℤ
side_of x ceil = cond (eqb ceil 0) (quarter_floor x) (quarter_ceil x)

-- id i of a list of ids, 0 past its end; or, for an i from 32 on, their number
abbrev pub seed_at : List ℕ → ℕ → ℕ
seed_at ids i = cond (ltb i 32) (get_or ids i 0) (length ids)

-- an index, or 32 where it is refused, at whatever place
abbrev pub index_or_32 : Paper ℕ → ℕ
index_or_32 (values i) = i
index_or_32 (refusal number place) = 32

abbrev pub index_or_full : (ℕ → Paper ℕ) → ℕ
index_or_full at = index_or_32 (at 0)

-- the shorts of the first n vertices, three to a vertex, in the box of bb_min and bb_size
unfoldable pub shorts_to : List ℕ → Vec3 → Vec3 → ℕ → List ℕ
shorts_to ws bb-min bb-size zero = []
shorts_to ws bb-min bb-size (suc n) =
    shorts_to ws bb-min bb-size n
    ++ (short (floats_at ws (3 * n)).x bb-min.x bb-size.x ∷ short (floats_at ws (3 * n)).y bb-min.y bb-size.y ∷ short (floats_at ws (3 * n)).z bb-min.z bb-size.z ∷ [])

-- how many vertices there are; 65537 where there are too many (14), 65538 where there is too little work (1)
abbrev pub count_or_why : Paper ℕ → ℕ
count_or_why (values n) = n
count_or_why (refusal number place) = cond (eqb number 14) 65537 65538

-- a refusal's number, 0 where there is none; and the words of the answer
abbrev pub number_of : Paper Counts → ℕ
number_of (refusal number place) = number
number_of (values n) = 0

abbrev pub answer_of : Paper Counts → List ℕ
answer_of (refusal number place) = place ∷ []
answer_of (values n) = n.polys ∷ n.portals ∷ n.points ∷ []
