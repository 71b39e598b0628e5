-- `write_corner_checks::decide_vertices` meets its contract. The invariant, `Going`: what is done with the corners that are left is done with all; and what is pushed and what is left to push make the whole. Assumes nothing.
use Prim.Native.Nat.{◌+◌, ◌*◌}
use native.Mathlib.Omega.{arith}
use native.Mathlib.Nat.{add-zero}
use mathlib.Core.Path.{◌≡◌}
use Rattle.std.proofs.lemmas.Result.{err_from_is_err_and}
use Rattle.strip.specs.Reading.{polygon_of}
use Rattle.pushed.proofs.Sums.{from_none, vertices_turn, vertices_end}
use Rattle.write_corner_checks.proofs.Corners.{area_of, begin, stop, again, done}
use Rattle.write_corner_checks.proofs.decide_vertices.Goals as goal

pub loop-i-init : goal.loop-i-init
loop-i-init c = (begin _ _ _ _ _ _ _ _ _ _ _ _ _ c.requires.3, omega arith, rw (add-zero c.args.p.vertex_at) (rw (from_none c.args.p.vertices) (omega arith)))

pub vertex_at-vertex-requires : goal.vertex_at-vertex-requires
vertex_at-vertex-requires c = omega (arith, c.loop-i-test.true, c.requires.0)

pub area_at-a-requires : goal.area_at-a-requires
area_at-a-requires c = λ h. omega (arith, c.requires.1)

pub area_at-b-requires : goal.area_at-b-requires
area_at-b-requires c = λ h. omega (arith, c.requires.1)

pub decide_corner-requires : goal.decide_corner-requires
decide_corner-requires c = (c.loop-i.invariant.0.ready, omega (arith, c.loop-i-test.true, c.requires.2), c.vertex_at-vertex.ensures.below)

pub returns-in_err-decide_corner : goal.returns-in_err-decide_corner
unfolding polygon_of
returns-in_err-decide_corner c =
    let p = err_from_is_err_and c.from_residual.result c.from_residual.ensures.1 in
    rw (p.1, p.2)
    (record {
      corners = stop _ _ _ _ _ _ _ _ _ _ _ _ _ _ _ _ _ _ _ _ _ _ _ c.loop-i.invariant.0 c.loop-i-test.true c.vertex_at-vertex.ensures.triple (area_of _ _ _ _ c.area_at-a.ensures (omega arith) (omega arith)) (area_of _ _ _ _ c.area_at-b.ensures (omega arith) (omega arith)) _ c.decide_corner.ensures _ c.in_err-decide_corner.was;
      pushed = tt;
    })

pub overflow_add-pushed : goal.overflow_add-pushed
overflow_add-pushed c = omega (arith, c.loop-i.invariant.1, c.loop-i-test.true, c.vertex_at-vertex.ensures.bound, c.requires.0)

pub loop-i-preserved : goal.loop-i-preserved
loop-i-preserved c =
    let a = c.args in
    let v : a.p.vertex_at + 3 * c.loop-i.i + 3 ≡ a.p.vertex_at + 3 * (c.loop-i.i + 1) = omega arith in
    let turn = rw v at (vertices_turn a.frame.bb_min a.frame.bb_size a.strip.now (a.p.vertex_at + 3 * c.loop-i.i) a.p.vertices c.loop-i.i c.loop-i-test.true) in (
      again _ _ _ _ _ _ _ _ _ _ _ _ _ _ _ _ _ _ _ _ _ _ _ c.loop-i.invariant.0 c.loop-i-test.true c.vertex_at-vertex.ensures.triple (area_of _ _ _ _ c.area_at-a.ensures (omega arith) (omega arith)) (area_of _ _ _ _ c.area_at-b.ensures (omega arith) (omega arith)) _ c.decide_corner.ensures _ c.in_ok-decide_corner.was,
      omega (arith, c.loop-i.invariant.1, c.vertex_at-vertex.ensures.bound),
      omega (arith, c.loop-i.invariant.2, turn, c.vertex_at-vertex.ensures.outside),
    )

pub returns : goal.returns
unfolding polygon_of
returns c =
    let a = c.args in
    let end = vertices_end a.frame.bb_min a.frame.bb_size a.strip.now (a.p.vertex_at + 3 * c.loop-i.i) a.p.vertices c.loop-i.i c.loop-i-test.false in
    record {
      corners = done _ _ _ _ _ _ _ _ _ _ _ _ _ _ _ _ _ _ c.loop-i.invariant.0 c.loop-i-test.false;
      pushed = omega (arith, c.loop-i.invariant.2, end);
    }
