-- `read_polygon_tally::run_below` meets its contract. The loop's invariant: what is left of the run is below exactly when all of it is.
use native.Mathlib.Omega.{arith}
use mathlib.Core.Path.{sym, ap, ◌∙◌}
use borrow.Author.Rules.{rules}
use Rattle.fields.specs.Bytes.{cut}
use Rattle.read_polygon_words.specs.Words.{all_below}
use Rattle.read_list_set.specs.Items.{items_in}
use Rattle.read_list_set.proofs.Runs.{left_begin, left_end, taken}
use Rattle.read_polygon_words.proofs.Below.{below_part, not_below_part, below_none}
use Rattle.read_polygon_tally.proofs.run_below.Goals as goal

pub loop-k-init : goal.loop-k-init
loop-k-init c = (search rules, c.requires.1, ap (all_below c.args.limit) (left_begin (items_in c.args.reader.system.now c.args.reader.graphics.now 2 c.args.table.now) c.args.start c.args.count))

pub seek-c-requires : goal.seek-c-requires
seek-c-requires c = (c.loop-k.invariant.1, omega (arith, c.requires.2, c.loop-k-test.true), c.requires.0.few)

pub list_run-run-requires : goal.list_run-run-requires
list_run-run-requires c = (c.requires.0, c.seek-c.ensures, omega arith)

pub all_below-requires : goal.all_below-requires
all_below-requires c = let t = taken _ _ 2 _ (omega arith) c.requires.0 c.args.start c.args.count c.loop-k.k c.seek-c.ensures c.list_run-run.ensures.content c.min-n.ensures c.requires.2 c.loop-k-test.true in t.long

pub returns-then-not-all_below : goal.returns-then-not-all_below
returns-then-not-all_below c =
    let turn = c.loop-k in
    let seek = c.seek-c in
    let list-run = c.list_run-run in
    let least = c.min-n in
    let t = taken _ _ 2 _ (omega arith) c.requires.0 c.args.start c.args.count turn.k seek.ensures list-run.ensures.content least.ensures c.requires.2 c.loop-k-test.true in sym (not_below_part _ (cut 2 least.result list-run.result.now) _ t.step c.all_below.ensures c.if-not-all_below.true ∙ turn.invariant.2)

pub overflow_add-k : goal.overflow_add-k
overflow_add-k c = let t = taken _ _ 2 _ (omega arith) c.requires.0 c.args.start c.args.count c.loop-k.k c.seek-c.ensures c.list_run-run.ensures.content c.min-n.ensures c.requires.2 c.loop-k-test.true in omega (arith, t.fits)

pub loop-k-smaller : goal.loop-k-smaller
loop-k-smaller c = let t = taken _ _ 2 _ (omega arith) c.requires.0 c.args.start c.args.count c.loop-k.k c.seek-c.ensures c.list_run-run.ensures.content c.min-n.ensures c.requires.2 c.loop-k-test.true in omega (arith, t.some, t.fits)

pub loop-k-preserved : goal.loop-k-preserved
loop-k-preserved c =
    let turn = c.loop-k in
    let seek = c.seek-c in
    let list-run = c.list_run-run in
    let least = c.min-n in
    let t = taken _ _ 2 _ (omega arith) c.requires.0 c.args.start c.args.count turn.k seek.ensures list-run.ensures.content least.ensures c.requires.2 c.loop-k-test.true in (t.fits, seek.ensures.stands, below_part _ (cut 2 least.result list-run.result.now) _ t.step c.all_below.ensures c.if-not-all_below.false ∙ turn.invariant.2)

pub returns : goal.returns
returns c =
    let turn = c.loop-k in
    (sym (below_none _ (left_end (items_in c.args.reader.system.now c.args.reader.graphics.now 2 c.args.table.now) c.args.start c.args.count turn.k c.loop-k-test.false) ∙ turn.invariant.2), turn.invariant.1)
