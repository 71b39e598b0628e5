-- `obj_length::vertices_length` meets its contract. The invariant: the bytes counted and those of the vertices that are left are all, and they are 20 a vertex at most.
use Prim.Native.Nat.{◌+◌, ◌-◌, ◌*◌, ◌≤◌}
use mathlib.Core.Path.{◌≡◌}
use lib.ListN.{length}
use Rattle.strip.specs.Cell.{each}
use Rattle.strip.specs.Reading.{vecs_at}
use Rattle.obj_lines.specs.Lines.{vertex_line}
use Rattle.obj_length.proofs.vertices_length.Given as goal

abbrev pub invariant-loop-i : goal.invariant-loop-i
invariant-loop-i l =
    (l.bytes ≤ 20 * l.i)
    × (l.bytes + length (each (vertex_line l.frame.bb_min l.frame.bb_size) (vecs_at l.strip (l.from + 3 * l.i) (l.n - l.i))) ≡ length (each (vertex_line l.frame.bb_min l.frame.bb_size) (vecs_at l.strip l.from l.n)))
