-- `read_polygons::put_run` meets its contract. The loop's invariant is `Going`: storing what is left from here gives what is promised.
use native.Mathlib.Nat.{sub-zero}
use native.Mathlib.Omega.{arith}
use borrow.Author.Rules.{rules}
use Rattle.read_list_set.proofs.Runs.{record_next, record_none}
use Rattle.read_polygons.proofs.InOrder.{begins, polygon_asks, one_on, ends}
use Rattle.read_polygons.proofs.put_run.Goals as goal

pub loop-k-init : goal.loop-k-init
loop-k-init c = (search rules, begins _ _ _ _ _ _ _ _ _ _ _ _ c.requires.0 c.requires.2 (rw (sub-zero c.args.m)))

pub put_polygon-r-requires : goal.put_polygon-r-requires
put_polygon-r-requires c = polygon_asks _ _ _ _ _ _ _ _ _ _ _ _ c.loop-k.invariant.1 _ _ (record_next c.args.run.now c.args.m c.loop-k.k c.loop-k-test.true)

pub loop-k-preserved : goal.loop-k-preserved
loop-k-preserved c = (omega (arith, c.loop-k-test.true), one_on _ _ _ _ _ _ _ _ _ _ _ _ c.loop-k.invariant.1 _ _ (record_next c.args.run.now c.args.m c.loop-k.k c.loop-k-test.true) c.put_polygon-r.ensures)

pub returns : goal.returns
returns c =
    let g = c.loop-k.invariant.1 in
    let (next, strip) = ends _ _ _ _ _ _ _ _ _ _ _ _ g (record_none c.args.run.now c.args.m c.loop-k.k c.loop-k-test.false) in
    record { next = next; ready = g.ready; strip = strip }
