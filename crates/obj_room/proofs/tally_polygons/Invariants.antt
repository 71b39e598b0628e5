-- `obj_room::tally_polygons` meets its contract. The invariant: no polygon passed is thin, so the first thin one is the first of those that are left; the
-- vertices counted and those left are all; and the count is below the place in the strip, so that it fits.
use Prim.Native.Nat.{◌+◌, ◌-◌, ◌≤◌}
use mathlib.Core.Path.{◌≡◌}
use lib.ListN.{length}
use Rattle.strip.specs.Rows.{polygons_at, after_polygons}
use Rattle.picking.specs.Picking.{first_from}
use Rattle.obj_room.specs.Thin.{is_thin}
use Rattle.obj_text.specs.Counts.{vertex_count}
use Rattle.obj_room.proofs.tally_polygons.Given as goal

abbrev pub invariant-loop-i : goal.invariant-loop-i
invariant-loop-i l =
    (after_polygons l.strip l.at (l.n - l.i) ≤ length l.strip) × (l.count ≤ l.at)
    × (first_from is_thin 0 (polygons_at l.strip 14 l.n) ≡ first_from is_thin l.i (polygons_at l.strip l.at (l.n - l.i)))
    × (l.count + vertex_count (polygons_at l.strip l.at (l.n - l.i)) ≡ vertex_count (polygons_at l.strip 14 l.n))
