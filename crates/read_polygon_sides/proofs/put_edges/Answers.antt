-- `read_polygon_sides::put_edges` meets its contract. The loop's invariant: storing what is left from here gives what is promised.
use native.Mathlib.Omega.{arith}
use mathlib.Core.Path.{refl, sym, ap, ◌∙◌}
use lib.ListN.{length}
use borrow.Author.Rules.{rules}
use Rattle.fields.specs.Bytes.{cut}
use Rattle.fields.proofs.Puts.{length_put}
use Rattle.strip.specs.Cell.{edge_words}
use Rattle.fields.proofs.Cuts.{cut_length}
use Rattle.read_edge_words.proofs.Edges.{edge_six}
use Rattle.read_list_set.specs.Items.{items_in}
use Rattle.read_list_set.proofs.Runs.{left_begin, left_end, taken, put_part, put_first, put_none}
use Rattle.read_polygon_sides.proofs.put_edges.Goals as goal

pub loop-k-init : goal.loop-k-init
loop-k-init c = (search rules, c.requires.1, refl, put_first edge_words 6 _ _ (left_begin (items_in c.args.pages.now.reader.system.now c.args.pages.now.reader.graphics.now 8 c.args.pages.now.edges.now) c.args.start c.args.count) _)

pub seek-c-requires : goal.seek-c-requires
seek-c-requires c = (c.loop-k.invariant.1, omega (arith, c.requires.2, c.loop-k-test.true), c.requires.0.few)

pub list_run-run-requires : goal.list_run-run-requires
list_run-run-requires c = (c.requires.0, c.seek-c.ensures, omega arith)

pub overflow_mul-k : goal.overflow_mul-k
overflow_mul-k c = omega (arith, c.loop-k-test.true, c.requires.3, c.well_formed)

pub overflow_add-at : goal.overflow_add-at
overflow_add-at c = omega (arith, c.loop-k-test.true, c.requires.3, c.well_formed)

pub put_edge_run-requires : goal.put_edge_run-requires
put_edge_run-requires c =
    let turn = c.loop-k in
    let t = taken _ _ 8 _ (omega arith) c.requires.0 c.args.start c.args.count turn.k c.seek-c.ensures c.list_run-run.ensures.content c.min-n.ensures c.requires.2 c.loop-k-test.true in (t.long, omega (arith, t.fits, turn.invariant.2, c.requires.3))

pub overflow_add-k : goal.overflow_add-k
overflow_add-k c = let t = taken _ _ 8 _ (omega arith) c.requires.0 c.args.start c.args.count c.loop-k.k c.seek-c.ensures c.list_run-run.ensures.content c.min-n.ensures c.requires.2 c.loop-k-test.true in omega (arith, t.fits)

pub loop-k-smaller : goal.loop-k-smaller
loop-k-smaller c = let t = taken _ _ 8 _ (omega arith) c.requires.0 c.args.start c.args.count c.loop-k.k c.seek-c.ensures c.list_run-run.ensures.content c.min-n.ensures c.requires.2 c.loop-k-test.true in omega (arith, t.some, t.fits)

pub loop-k-preserved : goal.loop-k-preserved
loop-k-preserved c =
    let turn = c.loop-k in
    let seek = c.seek-c in
    let list-run = c.list_run-run in
    let least = c.min-n in
    let put-edge-run = c.put_edge_run in
    let t = taken _ _ 8 _ (omega arith) c.requires.0 c.args.start c.args.count turn.k seek.ensures list-run.ensures.content least.ensures c.requires.2 c.loop-k-test.true in (t.fits, seek.ensures.stands, ap length put-edge-run.ensures ∙ rw (length_put, turn.invariant.2), rw put-edge-run.ensures (put_part edge_words 6 edge_six _ _ turn.k least.result (cut 8 least.result list-run.result.now) _ t.step (cut_length 8 least.result list-run.result.now) _ ∙ turn.invariant.3))

pub returns : goal.returns
returns c =
    let turn = c.loop-k in
    record {
      cursor = turn.invariant.1;
      content = sym (put_none edge_words 6 _ _ turn.k (left_end (items_in c.args.pages.now.reader.system.now c.args.pages.now.reader.graphics.now 8 c.args.pages.now.edges.now) c.args.start c.args.count turn.k c.loop-k-test.false) _) ∙ turn.invariant.3;
    }
