-- `picking::first_containing` meets its contract. The invariant: the search among all polygons is the one among those that are left, from number i and
-- from `at` on. What is left is inside the strip.
use Prim.Native.Nat.{◌-◌, ◌≤◌}
use lib.ListN.{length}
use mathlib.Core.Path.{◌≡◌}
use Rattle.strip.specs.Reading.{head_at}
use Rattle.strip.specs.Rows.{polygons_at, after_polygons}
use Rattle.picking.specs.Picking.{contains, first_from}
use Rattle.picking.proofs.first_containing.Given as goal

abbrev pub invariant-loop-i : goal.invariant-loop-i
invariant-loop-i l =
    let test = contains (head_at l.strip 0) l.s in
    (after_polygons l.strip l.at (l.n - l.i) ≤ length l.strip)
    × (first_from test 0 (polygons_at l.strip 14 l.n) ≡ first_from test l.i (polygons_at l.strip l.at (l.n - l.i)))
