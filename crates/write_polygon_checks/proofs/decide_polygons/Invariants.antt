-- `write_polygon_checks::decide_polygons` meets its contract. The invariant, `Onward`: what is done with the polygons that are left is done with all; and what is pushed and what is left to push make the whole. Assumes nothing.
use Prim.Native.Nat.{◌+◌, ◌-◌, ◌*◌, ◌≤◌}
use mathlib.Core.Path.{◌≡◌}
use Rattle.strip.specs.Rows.{polygons_at}
use Rattle.pushed.specs.Pushed.{pushed_in, vertices_of}
use Rattle.write_polygon_checks.proofs.Onward.{Onward}
use Rattle.write_polygon_checks.proofs.decide_polygons.Given as goal

abbrev pub invariant-loop-i : goal.invariant-loop-i
invariant-loop-i l =
    Onward l.strip l.frame.bb_min l.frame.bb_size l.n l.buckets l.room l.initial.tables l.initial.work l.initial.ids l.work l.ids l.tables l.at l.start l.links l.i
    × (l.pushed ≤ 3 * l.start) × (l.pushed + pushed_in l.frame.bb_min l.frame.bb_size (vertices_of (polygons_at l.strip l.at (l.n - l.i))) ≡ pushed_in l.frame.bb_min l.frame.bb_size (vertices_of (polygons_at l.strip 14 l.n)))
