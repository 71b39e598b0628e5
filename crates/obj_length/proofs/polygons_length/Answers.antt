-- `obj_length::polygons_length` meets its contract. The invariant: the bytes counted and those of the polygons that are left are all.
use Prim.Native.Nat.{◌+◌, ◌-◌}
use mathlib.Core.Path.{refl, ap}
use native.Mathlib.Omega.{arith}
use lib.ListN.{length, length-append}
use Rattle.strip.specs.Cell.{each}
use Rattle.strip.specs.Reading.{poly_at, polygon_at}
use Rattle.strip.specs.Rows.{polygons_at}
use Rattle.strip.proofs.Steps.{parts, after_polygon, next_inside}
use Rattle.obj_lines.proofs.Storing.{lines_done}
use Rattle.obj_text.specs.Text.{vertex_lines}
use Rattle.obj_text.proofs.Polygons.{vertices_turn}
use Rattle.obj_length.proofs.Lines.{counts_on, few_vertices}
use Rattle.obj_length.proofs.polygons_length.Goals as goal

pub poly_at-p-requires : goal.poly_at-p-requires
poly_at-p-requires c =
    let l = c.loop in
    let a = c.args in
    let s = a.strip.now in
    let p = poly_at s l.at in
    omega (arith, parts s l.at p refl, next_inside s l.at l.counter a.n (length s) c.loop-test.true l.invariant.0 p refl)

pub vertices_length-lines-requires : goal.vertices_length-lines-requires
vertices_length-lines-requires c =
    let l = c.loop in
    let a = c.args in
    let s = a.strip.now in
    let e = c.poly_at-p.ensures in
    (few_vertices s l.at _ e, omega (arith, parts _ _ _ e, next_inside s l.at l.counter a.n (length s) c.loop-test.true l.invariant.0 _ e))

pub loop-preserved : goal.loop-preserved
loop-preserved c =
    let l = c.loop in
    let a = c.args in
    let s = a.strip.now in
    let h = c.loop-test.true in
    let e = c.poly_at-p.ensures in
    let t = vertices_turn s l.at l.counter a.n h _ e a.frame.bb_min a.frame.bb_size in
    let first = c.vertices_length-lines.ensures in
    let rest = length (each (vertex_lines a.frame.bb_min a.frame.bb_size) (polygons_at s c.poly_at-p.result.next (a.n - (l.counter + 1)))) in
    (omega (arith, after_polygon s l.at l.counter a.n h _ e), omega (arith, c.saturating_add-bytes.ensures), counts_on l.bytes _ rest c.saturating_add-bytes.ensures (rw (t, length-append, ← first) at l.invariant.2))

pub returns : goal.returns
returns c =
    let l = c.loop in
    let a = c.args in
    let s = a.strip.now in
    let done = lines_done (vertex_lines a.frame.bb_min a.frame.bb_size) (polygon_at s) (λ x. (poly_at s x).next) l.at l.counter a.n c.loop-test.false in
    omega (arith, l.invariant.2, ap length done)
