-- `read_polygons::put_polygons` meets its contract. The loop's invariant is `Going`: storing what is left from here gives what is promised.
use Prim.Native.Nat.{◌/◌}
use native.Mathlib.Omega.{arith}
use mathlib.Core.Path.{refl}
use lib.ListN.{length}
use borrow.Author.Rules.{rules}
use Rattle.fields.specs.Bytes.{cut}
use Rattle.read_list_set.proofs.Runs.{length_items, part_next, none_left}
use Rattle.read_polygons.proofs.InOrder.{begins, run_asks, goes_on, ends}
use Rattle.read_polygons.proofs.put_polygons.Goals as goal

pub loop-i-init : goal.loop-i-init
loop-i-init c =
    let lists = c.requires.readable in
    (search rules, c.list_start-p.ensures.cursor, begins _ _ _ _ _ _ _ _ _ _ _ _ (record { vertex_list = lists.0; index_list = lists.1; edge_list = lists.2; in_vertices = c.list_start.ensures.cursor; in_indices = c.list_start-2.ensures.cursor; in_edges = c.list_start-3.ensures.cursor }) c.requires.passed refl)

pub walk_to-p-requires : goal.walk_to-p-requires
walk_to-p-requires c = (c.loop-i.invariant.1, omega (arith, c.requires.readable.4, c.loop-i-test.true), c.requires.readable.3.few)

pub list_run-run-requires : goal.list_run-run-requires
list_run-run-requires c = (c.requires.readable.3, c.walk_to-p.ensures, omega arith)

pub put_run-r-requires : goal.put_run-r-requires
put_run-r-requires c =
    let lent = c.args in
    let g = c.loop-i.invariant.2 in
    let part = part_next lent.pages.now.reader.system.now lent.pages.now.reader.graphics.now 48 lent.polys.now (omega arith) c.requires.readable.3 c.walk_to-p.ensures c.list_run-run.ensures.content in
    (g.ready, part.long, run_asks _ _ _ _ _ _ _ _ _ _ _ _ g _ _ part.step)

pub overflow_add-i : goal.overflow_add-i
overflow_add-i c =
    let lent = c.args in
    let part = part_next lent.pages.now.reader.system.now lent.pages.now.reader.graphics.now 48 lent.polys.now (omega arith) c.requires.readable.3 c.walk_to-p.ensures c.list_run-run.ensures.content in
    omega (arith, part.fits, length_items lent.pages.now.reader.system.now lent.pages.now.reader.graphics.now 48 lent.polys.now, c.requires.readable.3.few)

pub loop-i-smaller : goal.loop-i-smaller
loop-i-smaller c =
    let lent = c.args in
    let part = part_next lent.pages.now.reader.system.now lent.pages.now.reader.graphics.now 48 lent.polys.now (omega arith) c.requires.readable.3 c.walk_to-p.ensures c.list_run-run.ensures.content in
    omega (arith, part.some, c.loop-i-test.true)

pub loop-i-preserved : goal.loop-i-preserved
loop-i-preserved c =
    let lent = c.args in
    let part = part_next lent.pages.now.reader.system.now lent.pages.now.reader.graphics.now 48 lent.polys.now (omega arith) c.requires.readable.3 c.walk_to-p.ensures c.list_run-run.ensures.content in
    (omega (arith, part.fits, length_items lent.pages.now.reader.system.now lent.pages.now.reader.graphics.now 48 lent.polys.now, c.requires.readable.4), c.walk_to-p.ensures.stands, goes_on _ _ _ _ _ _ _ _ _ _ _ _ c.loop-i.invariant.2 (cut 48 (length c.list_run-run.result.now / 48) c.list_run-run.result.now) _ part.step c.put_run-r.ensures)

pub returns : goal.returns
returns c =
    let lent = c.args in
    let w = ends _ _ _ _ _ _ _ _ _ _ _ _ c.loop-i.invariant.2 (none_left lent.pages.now.reader.system.now lent.pages.now.reader.graphics.now 48 lent.polys.now c.loop-i.i (omega (arith, c.requires.readable.4, c.loop-i-test.false))) in record { next = w.0; content = w.1 }
