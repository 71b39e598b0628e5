-- `picking::first_containing` meets its contract: a turn of the loop passes one polygon by, or finds it.
use mathlib.Core.Path.{refl, sym, ◌∙◌}
use native.Mathlib.Omega.{arith}
use lib.ListN.{length}
use Rattle.strip.specs.Reading.{head_at, poly_at}
use Rattle.strip.proofs.Steps.{parts, after_polygon, next_inside}
use Rattle.cell_record.specs.Record.{record_of}
use Rattle.picking.specs.Picking.{contains}
use Rattle.picking.proofs.Search.{first_found, first_turn, first_done}
use Rattle.picking.proofs.first_containing.Goals as goal

pub poly_at-p-requires : goal.poly_at-p-requires
poly_at-p-requires c =
    let a = c.args in
    let l = c.loop-i in
    let p = poly_at a.strip.now l.at in
    omega (arith, parts a.strip.now l.at p refl, next_inside a.strip.now l.at l.i a.n (length a.strip.now) c.loop-i-test.true l.invariant.0 p refl)

pub contains-requires : goal.contains-requires
contains-requires c =
    let a = c.args in
    let l = c.loop-i in
    let e = c.poly_at-p.ensures in
    omega (arith, parts _ _ _ e, next_inside a.strip.now l.at l.i a.n (length a.strip.now) c.loop-i-test.true l.invariant.0 _ e)

pub returns-then-contains : goal.returns-then-contains
unfolding head_at record_of
returns-then-contains c =
    let a = c.args in
    let l = c.loop-i in
    let ws = a.strip.now in
    let test = contains (head_at ws 0) a.s in
    let m = rw (c.axes.ensures.x, c.axes.ensures.y, c.record_at.ensures) at c.contains.ensures in
    sym (l.invariant.1 ∙ first_found test ws l.at l.i a.n c.loop-i-test.true _ c.poly_at-p.ensures _ m c.if-contains.true)

pub loop-i-preserved : goal.loop-i-preserved
unfolding head_at record_of
loop-i-preserved c =
    let a = c.args in
    let l = c.loop-i in
    let ws = a.strip.now in
    let h = c.loop-i-test.true in
    let e = c.poly_at-p.ensures in
    let test = contains (head_at ws 0) a.s in
    let m = rw (c.axes.ensures.x, c.axes.ensures.y, c.record_at.ensures) at c.contains.ensures in
    (omega (arith, after_polygon ws l.at l.i a.n h _ e), l.invariant.1 ∙ first_turn test ws l.at l.i a.n h _ e _ m c.if-contains.false)

pub returns : goal.returns
returns c =
    let a = c.args in
    let l = c.loop-i in
    sym (l.invariant.1 ∙ first_done (contains (head_at a.strip.now 0) a.s) a.strip.now l.at l.i a.n c.loop-i-test.false)
