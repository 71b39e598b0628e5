-- `write_polygon_checks::decide_polygons` meets its contract. The invariant, `Onward`: what is done with the polygons that are left is done with all; and what is pushed and what is left to push make the whole. Assumes nothing.
use mathlib.Core.Path.{refl}
use native.Mathlib.Omega.{arith}
use Rattle.strip.specs.Reading.{poly_at}
use Rattle.strip.proofs.Steps.{parts}
use Rattle.pushed.proofs.Sums.{from_none, polygons_turn, polygons_end, few_of_polygon}
use Rattle.write_polygon_checks.proofs.Onward.{begin, next_in, judged, stop, again, done}
use Rattle.write_polygon_checks.proofs.decide_polygons.Goals as goal

pub loop-i-init : goal.loop-i-init
loop-i-init c = (begin _ _ _ _ _ _ _ _ _ c.requires.0 c.requires.2, omega arith, rw (from_none c.args.n) (omega arith))

pub poly_at-p-requires : goal.poly_at-p-requires
poly_at-p-requires c =
    let s = c.args.strip.now in
    let l = c.loop-i in
    let q = poly_at s l.at in
    omega (arith, parts s l.at q refl, next_in _ _ _ _ _ _ _ _ _ _ _ _ _ _ _ _ l.invariant.0 c.loop-i-test.true q refl)

pub decide_polygon-run-requires : goal.decide_polygon-run-requires
decide_polygon-run-requires c =
    let q = parts _ _ _ c.poly_at-p.ensures in
    let g = c.loop-i.invariant.0 in
    let x = next_in _ _ _ _ _ _ _ _ _ _ _ _ _ _ _ _ g c.loop-i-test.true _ c.poly_at-p.ensures in
    (omega (arith, q, x), omega (arith, q.edges_end, x), omega (arith, q, x, g.ahead, c.requires.1), g.ready)

pub returns-in-Err : goal.returns-in-Err
returns-in-Err c =
    record {
      polygons = stop _ _ _ _ _ _ _ _ _ _ _ _ _ _ _ _ c.loop-i.invariant.0 c.loop-i-test.true _ c.poly_at-p.ensures _ _ _ _ (judged c.decide_polygon-run.ensures.polygon) _ c.in-Err.is;
      pushed = tt;
    }

pub overflow_add-start : goal.overflow_add-start
overflow_add-start c =
    let q = parts _ _ _ c.poly_at-p.ensures in
    let g = c.loop-i.invariant.0 in
    let x = next_in _ _ _ _ _ _ _ _ _ _ _ _ _ _ _ _ g c.loop-i-test.true _ c.poly_at-p.ensures in
    omega (arith, q, x, g.ahead, g.links)

pub overflow_add-links : goal.overflow_add-links
overflow_add-links c =
    let q = parts _ _ _ c.poly_at-p.ensures in
    let g = c.loop-i.invariant.0 in
    let x = next_in _ _ _ _ _ _ _ _ _ _ _ _ _ _ _ _ g c.loop-i-test.true _ c.poly_at-p.ensures in
    omega (arith, q, x, g.ahead, g.links)

pub overflow_add-pushed : goal.overflow_add-pushed
overflow_add-pushed c =
    let a = c.args in
    let q = parts _ _ _ c.poly_at-p.ensures in
    let g = c.loop-i.invariant.0 in
    let x = next_in _ _ _ _ _ _ _ _ _ _ _ _ _ _ _ _ g c.loop-i-test.true _ c.poly_at-p.ensures in
    let one = rw c.in-Ok.is at c.decide_polygon-run.ensures.pushed in
    omega (arith, q, x, g.ahead, c.loop-i.invariant.1, one, few_of_polygon a.frame.bb_min a.frame.bb_size a.strip.now c.poly_at-p.result, c.well_formed)

pub loop-i-preserved : goal.loop-i-preserved
loop-i-preserved c =
    let a = c.args in
    let p = c.poly_at-p.result in
    let e = c.poly_at-p.ensures in
    let turn = polygons_turn a.frame.bb_min a.frame.bb_size a.strip.now c.loop-i.at a.n c.loop-i.i c.loop-i-test.true p e in
    let one = rw c.in-Ok.is at c.decide_polygon-run.ensures.pushed in (
      again _ _ _ _ _ _ _ _ _ _ _ _ _ _ _ _ c.loop-i.invariant.0 c.loop-i-test.true _ c.poly_at-p.ensures _ _ _ _ (judged c.decide_polygon-run.ensures.polygon) _ c.in-Ok.is,
      omega (arith, c.loop-i.invariant.1, one, few_of_polygon a.frame.bb_min a.frame.bb_size a.strip.now p),
      omega (arith, c.loop-i.invariant.2, turn, one),
    )

pub returns : goal.returns
returns c =
    let a = c.args in
    let end = polygons_end a.frame.bb_min a.frame.bb_size a.strip.now c.loop-i.at a.n c.loop-i.i c.loop-i-test.false in
    record {
      polygons = done _ _ _ _ _ _ _ _ _ _ _ _ _ _ _ _ _ c.loop-i.invariant.0 c.loop-i-test.false c.requires.1;
      pushed = omega (arith, c.loop-i.invariant.2, end);
    }
