-- `read_polygon_tally::check_polygons` meets its contract. The loop's invariant: the words so far, and those of what is left, make the whole tally.
use native.Mathlib.Omega.{arith}
use mathlib.Core.Path.{◌∙◌}
use borrow.Author.Rules.{rules}
use Rattle.fields.proofs.Cuts.{cut_length}
use Rattle.read_list_set.specs.Items.{items_in}
use Rattle.read_polygon_tally.specs.Tally.{tally_from}
use Rattle.read_list_set.proofs.Runs.{length_items, part_next, none_left}
use Rattle.std.proofs.lemmas.Result.{err_from_is_err_and}
use Rattle.read_polygon_tally.proofs.Tallies.{runs_more, runs_stop, tally_end, then_none}
use Rattle.read_polygon_tally.proofs.check_polygons.Goals as goal

pub loop-i-init : goal.loop-i-init
loop-i-init c =
    let start = c.args in
    (search rules, c.list_start-p.ensures.cursor, c.list_start-c.ensures.cursor, search rules, then_none (tally_from start.limits (items_in start.reader.system.now start.reader.graphics.now 2 start.table.now) 0 (items_in start.reader.system.now start.reader.graphics.now 48 start.polys.now)))

pub walk_to-p-requires : goal.walk_to-p-requires
walk_to-p-requires c = (c.loop-i.invariant.1, omega (arith, c.requires.3, c.loop-i-test.true), c.requires.1.few)

pub list_run-run-requires : goal.list_run-run-requires
list_run-run-requires c = (c.requires.1, c.walk_to-p.ensures, omega arith)

pub check_run-requires : goal.check_run-requires
check_run-requires c =
    let start = c.args in
    let part = part_next start.reader.system.now start.reader.graphics.now 48 start.polys.now (omega arith) c.requires.1 c.walk_to-p.ensures c.list_run-run.ensures.content in
    (c.requires.0, c.loop-i.invariant.2, c.requires.2, part.long, omega (arith, part.fits, length_items start.reader.system.now start.reader.graphics.now 48 start.polys.now, c.requires.1.few))

pub returns-in_err-more : goal.returns-in_err-more
returns-in_err-more c =
    let start = c.args in
    let turn = c.loop-i in
    let part = part_next start.reader.system.now start.reader.graphics.now 48 start.polys.now (omega arith) c.requires.1 c.walk_to-p.ensures c.list_run-run.ensures.content in
    let p = err_from_is_err_and c.from_residual.result c.from_residual.ensures.1 in
    record {
      answer = rw (p.1, p.2) (runs_stop start.limits (items_in start.reader.system.now start.reader.graphics.now 2 start.table.now) turn.i turn.words _ _ part.step c.in_err-more.ensures ∙ turn.invariant.4);
      bound = rw p.1 tt;
    }

pub overflow_add-words : goal.overflow_add-words
overflow_add-words c =
    let start = c.args in
    let turn = c.loop-i in
    let part = part_next start.reader.system.now start.reader.graphics.now 48 start.polys.now (omega arith) c.requires.1 c.walk_to-p.ensures c.list_run-run.ensures.content in
    let h = c.in_ok-more.ensures in
    omega (arith, h.2, turn.invariant.3, part.fits, length_items start.reader.system.now start.reader.graphics.now 48 start.polys.now, c.requires.1.few)

pub overflow_add-i : goal.overflow_add-i
overflow_add-i c =
    let start = c.args in
    let part = part_next start.reader.system.now start.reader.graphics.now 48 start.polys.now (omega arith) c.requires.1 c.walk_to-p.ensures c.list_run-run.ensures.content in
    omega (arith, part.fits, length_items start.reader.system.now start.reader.graphics.now 48 start.polys.now, c.requires.1.few)

pub loop-i-smaller : goal.loop-i-smaller
loop-i-smaller c =
    let start = c.args in
    let part = part_next start.reader.system.now start.reader.graphics.now 48 start.polys.now (omega arith) c.requires.1 c.walk_to-p.ensures c.list_run-run.ensures.content in
    omega (arith, part.some, c.loop-i-test.true)

pub loop-i-preserved : goal.loop-i-preserved
loop-i-preserved c =
    let start = c.args in
    let turn = c.loop-i in
    let part = part_next start.reader.system.now start.reader.graphics.now 48 start.polys.now (omega arith) c.requires.1 c.walk_to-p.ensures c.list_run-run.ensures.content in
    let h = c.in_ok-more.ensures in
    (omega (arith, part.fits, length_items start.reader.system.now start.reader.graphics.now 48 start.polys.now, c.requires.3), c.walk_to-p.ensures.stands, h.1, omega (arith, h.2, turn.invariant.3), runs_more start.limits (items_in start.reader.system.now start.reader.graphics.now 2 start.table.now) turn.i turn.words _ _ part.step (cut_length 48 _ _) h.0 ∙ turn.invariant.4)

pub returns : goal.returns
returns c =
    let start = c.args in
    let turn = c.loop-i in
    record {
      answer = tally_end start.limits (items_in start.reader.system.now start.reader.graphics.now 2 start.table.now) turn.i turn.words (none_left start.reader.system.now start.reader.graphics.now 48 start.polys.now turn.i (omega (arith, c.requires.3, c.loop-i-test.false))) ∙ turn.invariant.4;
      bound = omega (arith, turn.invariant.3, turn.invariant.0, c.loop-i-test.false);
    }
