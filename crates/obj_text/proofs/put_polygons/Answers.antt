-- `obj_text::put_polygons` meets its contract. The invariant: what stores the lines of the polygons that are left has stored them all.
use mathlib.Core.Path.{refl, ap}
use native.Mathlib.Omega.{arith}
use lib.ListN.{length}
use Rattle.strip.specs.Cell.{each}
use Rattle.strip.specs.Reading.{vecs_at, poly_at}
use Rattle.strip.proofs.Steps.{parts, after_polygon, next_inside}
use Rattle.obj_lines.specs.Lines.{vertex_line}
use Rattle.obj_lines.proofs.Storing.{has_room, goes_on, ends}
use Rattle.obj_text.specs.Text.{vertex_lines}
use Rattle.obj_text.proofs.Polygons.{vertices_turn, no_polygons}
use Rattle.obj_text.proofs.put_polygons.Goals as goal

pub poly_at-p-requires : goal.poly_at-p-requires
poly_at-p-requires c =
    let a = c.args in
    let l = c.loop in
    let p = poly_at a.strip.now l.at in
    omega (arith, parts a.strip.now l.at p refl, next_inside a.strip.now l.at l.counter a.n (length a.strip.now) c.loop-test.true l.invariant.0 p refl)

pub put_vertices-to-requires : goal.put_vertices-to-requires
put_vertices-to-requires c =
    let a = c.args in
    let l = c.loop in
    let e = c.poly_at-p.ensures in
    let h = c.loop-test.true in
    let p = c.poly_at-p.result in
    let lines = each (vertex_line a.frame.bb_min a.frame.bb_size) (vecs_at a.strip.now p.vertex_at p.vertices) in
    let t = vertices_turn a.strip.now l.at l.counter a.n h _ e a.frame.bb_min a.frame.bb_size in
    (omega (arith, parts _ _ _ e, next_inside a.strip.now l.at l.counter a.n (length a.strip.now) h l.invariant.0 _ e), has_room lines _ l.invariant.1 t)

pub loop-preserved : goal.loop-preserved
loop-preserved c =
    let a = c.args in
    let l = c.loop in
    let e = c.poly_at-p.ensures in
    let k = after_polygon a.strip.now l.at l.counter a.n c.loop-test.true _ e in
    let t = vertices_turn a.strip.now l.at l.counter a.n c.loop-test.true _ e a.frame.bb_min a.frame.bb_size in
    (omega (arith, k), goes_on l.invariant.1 t c.put_vertices-to.ensures)

pub returns : goal.returns
unfolding each
returns c =
    let a = c.args in
    let l = c.loop in
    ends l.invariant.1 (ap (each (vertex_lines a.frame.bb_min a.frame.bb_size)) (no_polygons a.strip.now l.at l.counter a.n c.loop-test.false))
