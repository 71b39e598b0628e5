-- `seams::poly_seams` meets its contract. The invariant: the counted halves of all the polygons are the count and those of the polygons that are left, from `at` on, which are inside the strip.
use Prim.Native.Nat.{◌+◌, ◌-◌, ◌≤◌}
use lib.ListN.{length}
use mathlib.Core.Path.{◌≡◌}
use Rattle.strip.specs.Rows.{polygons_at, after_polygons}
use Rattle.seams.specs.Seams.{counted, half_count}
use Rattle.seams.proofs.poly_seams.Given as goal

abbrev pub invariant-loop : goal.invariant-loop
invariant-loop l =
    (after_polygons l.strip l.at (l.n - l.counter) ≤ length l.strip)
    × (half_count (counted l.own) (polygons_at l.strip 14 l.n) ≡ l.count + half_count (counted l.own) (polygons_at l.strip l.at (l.n - l.counter))) × (l.count ≤ l.at)
