-- `write_corner_checks::decide_vertices` meets its contract. The invariant, `Going`: what is done with the corners that are left is done with all; and what is pushed and what is left to push make the whole. Assumes nothing.
use Prim.Native.Nat.{◌+◌, ◌-◌, ◌*◌, ◌≤◌}
use mathlib.Core.Path.{◌≡◌}
use Rattle.strip.specs.Reading.{vecs_at}
use Rattle.pushed.specs.Pushed.{pushed_in}
use Rattle.write_corner_checks.proofs.Corners.{Going}
use Rattle.write_corner_checks.proofs.decide_vertices.Given as goal

abbrev pub invariant-loop-i : goal.invariant-loop-i
invariant-loop-i l =
    Going l.strip l.frame.bb_min l.frame.bb_size l.p.vertices l.p.edges l.p.vertex_at l.p.edge_at l.buckets l.room l.start l.initial.tables l.initial.work l.initial.ids l.work l.ids l.tables l.i
    × (l.pushed ≤ 3 * l.i) × (l.pushed + pushed_in l.frame.bb_min l.frame.bb_size (vecs_at l.strip (l.p.vertex_at + 3 * l.i) (l.p.vertices - l.i)) ≡ pushed_in l.frame.bb_min l.frame.bb_size (vecs_at l.strip l.p.vertex_at l.p.vertices))
