-- `seams::poly_seams` meets its contract. The invariant: the counted halves of all the polygons are the count and those of the polygons that are left, from `at` on, which are inside the strip.
use lib.ListN.{length}
use mathlib.Core.Path.{refl, ap}
use native.Mathlib.Nat.{sub-zero, zero-add}
use native.Mathlib.Omega.{arith}
use Rattle.strip.specs.Reading.{polygon_of, polygon_at, poly_at}
use Rattle.strip.proofs.Steps.{polygons_turn, items_done, parts, after_polygon, next_inside}
use Rattle.seams.specs.Seams.{counted, half_count}
use Rattle.seams.proofs.poly_seams.Goals as goal

pub loop-init : goal.loop-init
loop-init c = (rw sub-zero c.requires, rw (sub-zero, zero-add), omega arith)

pub poly_at-p-requires : goal.poly_at-p-requires
poly_at-p-requires c =
    let a = c.args in
    let l = c.loop in
    let p = poly_at a.strip.now l.at in
    omega (arith, parts a.strip.now l.at p refl, next_inside a.strip.now l.at l.counter a.n (length a.strip.now) c.loop-test.true l.invariant.0 p refl)

pub edge_seams-count-requires : goal.edge_seams-count-requires
edge_seams-count-requires c =
    let a = c.args in
    let l = c.loop in
    let e = c.poly_at-p.ensures in
    omega (arith, parts _ _ _ e, next_inside a.strip.now l.at l.counter a.n (length a.strip.now) c.loop-test.true l.invariant.0 _ e)

pub overflow_add-count : goal.overflow_add-count
overflow_add-count c =
    let a = c.args in
    let l = c.loop in
    let e = c.poly_at-p.ensures in
    omega (arith, parts _ _ _ e, next_inside a.strip.now l.at l.counter a.n (length a.strip.now) c.loop-test.true l.invariant.0 _ e)

pub loop-preserved : goal.loop-preserved
unfolding half_count polygon_of
loop-preserved c =
    let a = c.args in
    let l = c.loop in
    let e = c.poly_at-p.ensures in
    let t = polygons_turn a.strip.now l.at l.counter a.n c.loop-test.true _ e in
    let k = after_polygon a.strip.now l.at l.counter a.n c.loop-test.true _ e in
    (omega (arith, k), omega (arith, ap (half_count (counted a.own)) t), omega (arith, parts _ _ _ e))

pub returns : goal.returns
unfolding half_count polygon_of
returns c =
    let a = c.args in
    let l = c.loop in
    omega (arith, ap (half_count (counted a.own)) (items_done (polygon_at a.strip.now) (λ x. (poly_at a.strip.now x).next) l.at l.counter a.n c.loop-test.false))
