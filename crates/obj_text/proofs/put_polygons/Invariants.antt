-- `obj_text::put_polygons` meets its contract. The invariant: what stores the lines of the polygons that are left has stored them all.
use Prim.Native.Nat.{◌-◌, ◌≤◌}
use lib.ListN.{length}
use Rattle.strip.specs.Cell.{each}
use Rattle.strip.specs.Rows.{polygons_at, after_polygons}
use Rattle.obj_lines.proofs.Storing.{Storing}
use Rattle.obj_text.specs.Text.{vertex_lines}
use Rattle.obj_text.proofs.put_polygons.Given as goal

abbrev pub invariant-loop : goal.invariant-loop
invariant-loop l =
    (after_polygons l.strip l.at (l.n - l.counter) ≤ length l.strip)
    × Storing 0 (each (vertex_lines l.frame.bb_min l.frame.bb_size) (polygons_at l.strip 14 l.n)) l.initial.text l.to (each (vertex_lines l.frame.bb_min l.frame.bb_size) (polygons_at l.strip l.at (l.n - l.counter))) l.text
