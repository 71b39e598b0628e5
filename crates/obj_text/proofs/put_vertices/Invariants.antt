-- `obj_text::put_vertices` meets its contract. The invariant: what stores the lines of the vertices that are left has stored them all.
use Prim.Native.Nat.{◌+◌, ◌-◌, ◌*◌}
use Rattle.strip.specs.Cell.{each}
use Rattle.strip.specs.Reading.{vecs_at}
use Rattle.obj_lines.specs.Lines.{vertex_line}
use Rattle.obj_lines.proofs.Storing.{Storing}
use Rattle.obj_text.proofs.put_vertices.Given as goal

abbrev pub invariant-loop-i : goal.invariant-loop-i
invariant-loop-i l =
    Storing l.at (each (vertex_line l.frame.bb_min l.frame.bb_size) (vecs_at l.strip l.from l.n)) l.initial.text l.to (each (vertex_line l.frame.bb_min l.frame.bb_size) (vecs_at l.strip (l.from + 3 * l.i) (l.n - l.i))) l.text
