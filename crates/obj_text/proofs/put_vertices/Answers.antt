-- `obj_text::put_vertices` meets its contract. The invariant: what stores the lines of the vertices that are left has stored them all.
use Prim.Native.Nat.{◌+◌, ◌*◌}
use mathlib.Core.Path.{◌≡◌}
use native.Mathlib.Omega.{arith}
use Rattle.strip.specs.Reading.{vec_at}
use Rattle.obj_lines.specs.Lines.{vertex_line}
use Rattle.obj_lines.proofs.Storing.{has_room, goes_on, ends, lines_turn, lines_done}
use Rattle.obj_text.proofs.put_vertices.Goals as goal

pub put_vertex-to-requires : goal.put_vertex-to-requires
put_vertex-to-requires c =
    let l = c.loop-i in
    let a = c.args in
    let line = vertex_line a.frame.bb_min a.frame.bb_size in
    let t = lines_turn line (vec_at a.strip.now) (λ x. x + 3) (a.from + 3 * l.i) l.i a.n c.loop-i-test.true in
    (omega arith, has_room (line (vec_at a.strip.now (a.from + 3 * l.i))) _ l.invariant t)

pub loop-i-preserved : goal.loop-i-preserved
loop-i-preserved c =
    let a = c.args in
    let l = c.loop-i in
    let t = lines_turn (vertex_line a.frame.bb_min a.frame.bb_size) (vec_at a.strip.now) (λ x. x + 3) (a.from + 3 * l.i) l.i a.n c.loop-i-test.true in
    let next : a.from + 3 * (l.i + 1) ≡ a.from + 3 * l.i + 3 = omega arith in
    rw next (goes_on l.invariant t c.put_vertex-to.ensures)

pub returns : goal.returns
returns c =
    let a = c.args in
    let l = c.loop-i in
    ends l.invariant (lines_done (vertex_line a.frame.bb_min a.frame.bb_size) (vec_at a.strip.now) (λ x. x + 3) (a.from + 3 * l.i) l.i a.n c.loop-i-test.false)
