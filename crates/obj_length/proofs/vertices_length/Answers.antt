-- `obj_length::vertices_length` meets its contract. The invariant: the bytes counted and those of the vertices that are left are all, and they are 20 a vertex at most.
use Prim.Native.Nat.{◌+◌, ◌-◌, ◌*◌}
use mathlib.Core.Path.{◌≡◌, ap, ◌∙◌}
use native.Mathlib.Omega.{arith}
use lib.ListN.{length, length-append}
use Rattle.strip.specs.Cell.{each}
use Rattle.strip.specs.Reading.{vec_at, vecs_at}
use Rattle.obj_lines.proofs.Storing.{lines_turn, lines_done}
use Rattle.obj_lines.specs.Lines.{vertex_line}
use Rattle.obj_lines.proofs.Lengths.{vertex_most}
use Rattle.obj_length.proofs.vertices_length.Goals as goal

pub overflow_add-bytes : goal.overflow_add-bytes
overflow_add-bytes c =
    let l = c.loop-i in
    let a = c.args in
    omega (arith, l.invariant.0, c.vertex_length-bytes.ensures, vertex_most a.frame.bb_min a.frame.bb_size (vec_at a.strip.now (a.from + 3 * l.i)))

pub loop-i-preserved : goal.loop-i-preserved
loop-i-preserved c =
    let l = c.loop-i in
    let a = c.args in
    let line = vertex_line a.frame.bb_min a.frame.bb_size in
    let s = a.strip.now in
    let place = a.from + 3 * l.i in
    let next : a.from + 3 * (l.i + 1) ≡ place + 3 = omega arith in
    let t = lines_turn line (vec_at s) (λ x. x + 3) place l.i a.n c.loop-i-test.true in
    let both = ap length t ∙ length-append (line (vec_at s place)) (each line (vecs_at s (place + 3) (a.n - (l.i + 1)))) in
    let e = c.vertex_length-bytes.ensures in
    (omega (arith, l.invariant.0, e, vertex_most a.frame.bb_min a.frame.bb_size (vec_at s place)), rw next (omega (arith, l.invariant.1, e, both)))

pub returns : goal.returns
returns c =
    let l = c.loop-i in
    let a = c.args in
    let done = lines_done (vertex_line a.frame.bb_min a.frame.bb_size) (vec_at a.strip.now) (λ x. x + 3) (a.from + 3 * l.i) l.i a.n c.loop-i-test.false in
    omega (arith, l.invariant.1, ap length done)
