-- `write_plan::put_boxes` meets its contract. The invariant, `Boxing`: the boxes that are left, stored from here, make the whole. Assumes nothing.
use mathlib.Core.Path.{refl}
use native.Mathlib.Omega.{arith}
use Rattle.strip.specs.Reading.{poly_at}
use Rattle.strip.proofs.Steps.{parts}
use Rattle.write_plan.proofs.Stored.{boxing_start, box_next, boxing_turn, boxing_done}
use Rattle.write_plan.proofs.put_boxes.Goals as goal

pub loop-i-init : goal.loop-i-init
loop-i-init c = boxing_start _ _ _ _ c.requires.0

pub poly_at-p-requires : goal.poly_at-p-requires
poly_at-p-requires c =
    let s = c.args.strip.now in
    let l = c.loop-i in
    let q = poly_at s l.at in
    omega (arith, parts s l.at q refl, box_next _ _ _ _ _ _ _ l.invariant c.loop-i-test.true q refl)

pub put_box-requires : goal.put_box-requires
put_box-requires c =
    let q = parts _ _ _ c.poly_at-p.ensures in
    let x = box_next _ _ _ _ _ _ _ c.loop-i.invariant c.loop-i-test.true _ c.poly_at-p.ensures in
    (omega (arith, q, x), omega (arith, c.loop-i.invariant.long, c.loop-i-test.true, c.requires.1))

pub loop-i-preserved : goal.loop-i-preserved
loop-i-preserved c = boxing_turn _ _ _ _ _ _ _ c.loop-i.invariant c.loop-i-test.true _ c.poly_at-p.ensures _ c.put_box.ensures

pub returns : goal.returns
returns c = boxing_done _ _ _ _ _ _ _ c.loop-i.invariant c.loop-i-test.false
