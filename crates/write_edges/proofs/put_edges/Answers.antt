-- `write_edges::put_edges` meets its contract. The invariant, `Edging`: the edges of the polygons that are left, stored from here, make the whole.
use mathlib.Core.Path.{refl}
use native.Mathlib.Omega.{arith}
use Rattle.strip.specs.Reading.{poly_at}
use Rattle.strip.proofs.Steps.{parts}
use Rattle.write_edges.proofs.Halves.{edging, edging_next, edging_room, edging_turn, edged}
use Rattle.write_edges.proofs.put_edges.Goals as goal

pub loop-i-init : goal.loop-i-init
loop-i-init c = edging _ _ _ _ _ _ _ c.requires.0

pub poly_at-p-requires : goal.poly_at-p-requires
poly_at-p-requires c =
    let s = c.args.strip.now in
    let q = poly_at s c.loop-i.at in
    omega (arith, parts s c.loop-i.at q refl, edging_next _ _ _ _ _ _ _ _ _ _ _ c.loop-i.invariant c.loop-i-test.true q refl)

pub put_run-requires : goal.put_run-requires
put_run-requires c =
    let q = parts _ _ _ c.poly_at-p.ensures in
    let x = edging_next _ _ _ _ _ _ _ _ _ _ _ c.loop-i.invariant c.loop-i-test.true _ c.poly_at-p.ensures in
    let y = edging_room _ _ _ _ _ _ _ _ _ _ _ c.loop-i.invariant c.loop-i-test.true _ c.poly_at-p.ensures c.requires.1 in
    (omega (arith, q.edges_end, x), omega (arith, q.vertices_end, q.edges_end, x, c.well_formed), y)

pub overflow_mul-place : goal.overflow_mul-place
overflow_mul-place c = omega (arith, edging_room _ _ _ _ _ _ _ _ _ _ _ c.loop-i.invariant c.loop-i-test.true _ c.poly_at-p.ensures c.requires.1, c.loop-i.invariant.long, c.well_formed)

pub overflow_add-place : goal.overflow_add-place
overflow_add-place c = omega (arith, edging_room _ _ _ _ _ _ _ _ _ _ _ c.loop-i.invariant c.loop-i-test.true _ c.poly_at-p.ensures c.requires.1, c.loop-i.invariant.long, c.well_formed)

pub loop-i-preserved : goal.loop-i-preserved
loop-i-preserved c = edging_turn _ _ _ _ _ _ _ _ _ _ _ c.loop-i.invariant c.loop-i-test.true _ c.poly_at-p.ensures _ c.put_run.ensures

pub returns : goal.returns
returns c = edged _ _ _ _ _ _ _ _ _ _ _ c.loop-i.invariant c.loop-i-test.false
