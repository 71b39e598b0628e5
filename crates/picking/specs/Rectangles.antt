-- Rectangles in shorts, and a whole cut in two: what the theorems on rectangles are stated with. Definitions only.
use Rattle.std.specs.Prelude.{ℕ, ◌≡◌, Bool, false, ◌&&◌, ◌||◌, List, [], ◌∷◌, map}
use Rattle.strip.specs.Cell.{NavPoly, Head}
use Rattle.pick_contains.specs.declared.Spot.{Spot}
use Rattle.picking.specs.Picking.{spot_of}

abbrev pub spot : ℕ → ℕ → Spot
spot x y = record { x = x; y = y }

-- from the lower left vertex to the lower right one, and on round
abbrev pub rectangle : (l b r t : ℕ) → List Spot
rectangle l b r t = spot l b ∷ spot r b ∷ spot r t ∷ spot l t ∷ []

-- a polygon whose vertices have these spots
abbrev pub IsRectangle : Head → NavPoly → (l b r t : ℕ) → Type 0
IsRectangle h p l b r t = map (spot_of h) p.vertices ≡ rectangle l b r t

-- a whole passes where one of its two halves does, and never both of them do
abbrev pub Halves : (all a b : Bool) → Type 0
Halves all a b = (all ≡ (a || b)) × ((a && b) ≡ false)
