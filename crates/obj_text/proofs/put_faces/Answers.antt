-- `obj_text::put_faces` meets its contract. The invariant: what stores the lines of the polygons that are left has stored them all, and the next
use mathlib.Core.Path.{refl, ap}
use native.Mathlib.Nat.{sub-zero}
use native.Mathlib.Omega.{arith}
use lib.ListN.{length}
use Rattle.strip.specs.Cell.{each}
use Rattle.strip.specs.Reading.{poly_at}
use Rattle.strip.proofs.Steps.{parts, after_polygon, next_inside}
use Rattle.obj_lines.specs.Lines.{consecutive, face_line}
use Rattle.obj_lines.proofs.Storing.{begins, has_room, goes_on, ends}
use Rattle.obj_text.specs.Text.{face_numbers, face_lines}
use Rattle.obj_text.proofs.Polygons.{faces_turn, no_polygons}
use Rattle.obj_text.proofs.put_faces.Goals as goal

pub loop-init : goal.loop-init
loop-init c = (rw sub-zero c.requires.0, omega arith, begins c.requires.1 (rw sub-zero))

pub poly_at-p-requires : goal.poly_at-p-requires
poly_at-p-requires c =
    let a = c.args in
    let l = c.loop in
    let p = poly_at a.strip.now l.at in
    omega (arith, parts a.strip.now l.at p refl, next_inside a.strip.now l.at l.counter a.n (length a.strip.now) c.loop-test.true l.invariant.0 p refl)

pub put_face-to-requires : goal.put_face-to-requires
put_face-to-requires c =
    let a = c.args in
    let l = c.loop in
    let e = c.poly_at-p.ensures in
    let h = c.loop-test.true in
    let t = faces_turn a.strip.now l.at l.counter a.n h _ e l.number _ refl in
    (omega (arith, parts _ _ _ e, next_inside a.strip.now l.at l.counter a.n (length a.strip.now) h l.invariant.0 _ e), has_room (face_line (consecutive l.number c.poly_at-p.result.vertices)) _ l.invariant.2 t)

pub overflow_add-number : goal.overflow_add-number
overflow_add-number c =
    let a = c.args in
    let l = c.loop in
    let e = c.poly_at-p.ensures in
    omega (arith, c.well_formed, l.invariant.1, parts _ _ _ e, next_inside a.strip.now l.at l.counter a.n (length a.strip.now) c.loop-test.true l.invariant.0 _ e)

pub loop-preserved : goal.loop-preserved
loop-preserved c =
    let a = c.args in
    let l = c.loop in
    let e = c.poly_at-p.ensures in
    let k = after_polygon a.strip.now l.at l.counter a.n c.loop-test.true _ e in
    (omega (arith, k), omega (arith, parts _ _ _ e), goes_on l.invariant.2 (faces_turn a.strip.now l.at l.counter a.n c.loop-test.true _ e l.number _ (omega arith)) c.put_face-to.ensures)

pub returns : goal.returns
unfolding each face_numbers
returns c =
    let a = c.args in
    let l = c.loop in
    ends l.invariant.2 (ap (face_lines l.number) (no_polygons a.strip.now l.at l.counter a.n c.loop-test.false))
