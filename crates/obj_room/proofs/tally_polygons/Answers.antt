-- `obj_room::tally_polygons` meets its contract. The invariant: no polygon passed is thin, so the first thin one is the first of those that are left; the
use mathlib.Core.Path.{refl, ◌∙◌}
use native.Mathlib.Omega.{arith}
use borrow.Author.Tests.{lt-ltb, le-ltb}
use lib.ListN.{length}
use Rattle.strip.specs.Reading.{poly_at}
use Rattle.strip.proofs.Steps.{parts, after_polygon, next_inside}
use Rattle.picking.proofs.Search.{first_found, first_turn, first_done}
use Rattle.obj_room.specs.Thin.{is_thin}
use Rattle.obj_room.proofs.Polygons.{thin_of, count_turn, count_done}
use Rattle.obj_room.proofs.tally_polygons.Goals as goal

pub poly_at-p-requires : goal.poly_at-p-requires
poly_at-p-requires c =
    let a = c.args in
    let l = c.loop-i in
    let p = poly_at a.strip.now l.at in
    omega (arith, parts a.strip.now l.at p refl, next_inside a.strip.now l.at l.i a.n (length a.strip.now) c.loop-i-test.true l.invariant.0 p refl)

pub returns-then-p-lt3 : goal.returns-then-p-lt3
returns-then-p-lt3 c =
    let a = c.args in
    let l = c.loop-i in
    let e = c.poly_at-p.ensures in
    l.invariant.2 ∙ first_found is_thin a.strip.now l.at l.i a.n c.loop-i-test.true _ e _ (thin_of a.strip.now _) (lt-ltb _ 3 c.if-p-lt3.true)

pub overflow_add-count : goal.overflow_add-count
overflow_add-count c =
    let a = c.args in
    let l = c.loop-i in
    let e = c.poly_at-p.ensures in
    omega (arith, c.well_formed, l.invariant.1, parts _ _ _ e, next_inside a.strip.now l.at l.i a.n (length a.strip.now) c.loop-i-test.true l.invariant.0 _ e)

pub loop-i-preserved : goal.loop-i-preserved
loop-i-preserved c =
    let a = c.args in
    let l = c.loop-i in
    let e = c.poly_at-p.ensures in
    let h = c.loop-i-test.true in
    let k = after_polygon a.strip.now l.at l.i a.n h _ e in
    let t = first_turn is_thin a.strip.now l.at l.i a.n h _ e _ (thin_of a.strip.now _) (le-ltb _ 3 c.if-p-lt3.false) in
    (omega (arith, k), omega (arith, parts _ _ _ e), l.invariant.2 ∙ t, omega (arith, l.invariant.3, count_turn a.strip.now l.at l.i a.n h _ e))

pub returns : goal.returns
returns c =
    let a = c.args in
    let l = c.loop-i in
    let h = c.loop-i-test.false in
    (l.invariant.2 ∙ first_done is_thin a.strip.now l.at l.i a.n h, omega (arith, l.invariant.3, count_done a.strip.now l.at l.i a.n h))
