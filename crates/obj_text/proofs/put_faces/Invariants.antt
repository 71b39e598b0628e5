-- `obj_text::put_faces` meets its contract. The invariant: what stores the lines of the polygons that are left has stored them all, and the next
-- number is below the place in the strip, so that it fits.
use Prim.Native.Nat.{◌-◌, ◌≤◌}
use lib.ListN.{length}
use Rattle.strip.specs.Rows.{polygons_at, after_polygons}
use Rattle.obj_lines.proofs.Storing.{Storing}
use Rattle.obj_text.specs.Text.{face_lines}
use Rattle.obj_text.proofs.put_faces.Given as goal

abbrev pub invariant-loop : goal.invariant-loop
invariant-loop l =
    (after_polygons l.strip l.at (l.n - l.counter) ≤ length l.strip) × (l.number ≤ l.at)
    × Storing l.start (face_lines 1 (polygons_at l.strip 14 l.n)) l.initial.text l.to (face_lines l.number (polygons_at l.strip l.at (l.n - l.counter))) l.text
