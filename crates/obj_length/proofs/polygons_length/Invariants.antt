-- `obj_length::polygons_length` meets its contract. The invariant: the bytes counted and those of the polygons that are left are all.
use Prim.Native.Nat.{◌+◌, ◌-◌, ◌≤◌, min}
use mathlib.Core.Path.{◌≡◌}
use lib.ListN.{length}
use Rattle.strip.specs.Cell.{each}
use Rattle.strip.specs.Rows.{polygons_at, after_polygons}
use Rattle.obj_length.specs.Last.{last}
use Rattle.obj_text.specs.Text.{vertex_lines}
use Rattle.obj_length.proofs.polygons_length.Given as goal

abbrev pub invariant-loop : goal.invariant-loop
invariant-loop l =
    (after_polygons l.strip l.at (l.n - l.counter) ≤ length l.strip) × (l.bytes ≤ last)
    × (min (l.bytes + length (each (vertex_lines l.frame.bb_min l.frame.bb_size) (polygons_at l.strip l.at (l.n - l.counter)))) last ≡ min (length (each (vertex_lines l.frame.bb_min l.frame.bb_size) (polygons_at l.strip 14 l.n))) last)
