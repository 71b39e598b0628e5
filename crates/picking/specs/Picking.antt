-- What lies under the cursor (document 02, No. 1): the lowest-numbered polygon that contains a spot, by the even-odd rule on shorts; and the
-- spot of a position. Definitions only.
use Rattle.std.specs.Prelude.{ℕ, ◌+◌, Bool, cond, List, [], ◌∷◌, map, Float, Option, Some, None}
use Rattle.std.specs.Float.{binary32}
use Rattle.std.specs.Float.Ieee.{of_bits}
use Rattle.quantise.specs.Short.{short}
use Rattle.strip.specs.Cell.{Vec3, NavPoly, Head, Cell}
use Rattle.strip.specs.Outcome.{Outcome}
use Rattle.strip_parts.specs.Boxed.{checked}
use Rattle.pick_contains.specs.declared.Spot.{Spot}
use Rattle.pick_contains.specs.Inside.{inside}

-- "Vertices become shorts by the cell's box": by axis, lo from bb_min and extent from bb_size. z is left out.
abbrev pub spot_at : Head → (x y : Float) → Spot
spot_at h x y =
    record {
      x = short x (of_bits binary32 h.bb_min.x) (of_bits binary32 h.bb_size.x);
      y = short y (of_bits binary32 h.bb_min.y) (of_bits binary32 h.bb_size.y);
    }

abbrev pub spot_of : Head → Vec3 → Spot
spot_of h v = spot_at h (of_bits binary32 v.x) (of_bits binary32 v.y)

abbrev pub contains : Head → Spot → NavPoly → Bool
contains h s p = inside s (map (spot_of h) p.vertices)

-- the number of the first that passes a test, or none, of those from number k on
unfoldable pub first_from : {A : Type 0} → (A → Bool) → ℕ → List A → Option ℕ
first_from test k [] = None
first_from test k (a ∷ rest) = cond (test a) (Some k) (first_from test (k + 1) rest)

-- "the lowest-numbered polygon containing them, or none"
abbrev pub lowest : Spot → Cell → Option ℕ
lowest s c = first_from (contains c.head s) 0 c.polys

-- "Checks: 3, then 10": what the two calls have to decide
abbrev pub pick_outcome : List ℕ → Spot → Outcome (Option ℕ)
pick_outcome strip s = checked (lowest s) strip

abbrev pub spot_outcome : List ℕ → (x y : Float) → Outcome Spot
spot_outcome strip x y = checked (λ c. spot_at c.head x y) strip
