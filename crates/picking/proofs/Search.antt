-- Laws of a search among polygons, by how many are left. Assumes nothing.
use Prim.Native.Nat.{ℕ, ◌+◌, ◌-◌, ◌≤◌, ◌<◌}
use mathlib.Core.Path.{◌≡◌}
use mathlib.Core.Bool.{Bool, true, false}
use mathlib.Core.List.{List}
use Rattle.std.specs.Prelude.{Some, None}
use Rattle.strip.specs.Cell.{NavPoly}
use Rattle.strip.specs.Reading.{poly_at, polygon_of, polygon_at}
use Rattle.strip.specs.Rows.{polygons_at}
use Rattle.strip.specs.declared.Poly.{Poly}
use Rattle.strip.proofs.Steps.{items_done, polygons_turn}
use Rattle.picking.specs.Picking.{first_from}

-- a search among the polygons that are left, from number i on: the next one passes the test, or not, or there is none
module _ (test : NavPoly → Bool) (ws : List ℕ) (at i n : ℕ) where
  module _ (k : i < n) (p : Poly) (e : p ≡ poly_at ws at) (b : Bool) (m : b ≡ test (polygon_of ws p)) where
    pub first_found : b ≡ true → first_from test i (polygons_at ws at (n - i)) ≡ Some i
    unfolding first_from
    first_found t = rw (polygons_turn ws at i n k p e, ← m, t)

    pub first_turn : b ≡ false → first_from test i (polygons_at ws at (n - i)) ≡ first_from test (i + 1) (polygons_at ws p.next (n - (i + 1)))
    unfolding first_from
    first_turn t = rw (polygons_turn ws at i n k p e, ← m, t)

  pub first_done : n ≤ i → first_from test i (polygons_at ws at (n - i)) ≡ None
  unfolding first_from
  first_done k = rw (items_done (polygon_at ws) (λ x. (poly_at ws x).next) at i n k)
