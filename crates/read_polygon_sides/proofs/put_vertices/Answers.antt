-- `read_polygon_sides::put_vertices` meets its contract. The loop's invariant: the indices left are below the count, and storing what is left from here gives what is promised.
use Prim.Native.Nat.{◌+◌}
use native.Mathlib.Omega.{arith}
use mathlib.Core.Path.{refl, sym, ap, ◌∙◌}
use lib.ListN.{length}
use borrow.Author.Rules.{rules}
use Rattle.fields.specs.Bytes.{cut}
use Rattle.fields.proofs.Puts.{length_put}
use Rattle.strip.specs.Cell.{vec_words}
use Rattle.read_lists.specs.Lists.{total}
use Rattle.fields.proofs.Cuts.{cut_length}
use Rattle.read_polygon_words.specs.Words.{all_below}
use Rattle.read_polygon_words.proofs.Words.{vec_three}
use Rattle.read_list_set.specs.Items.{items_in}
use Rattle.read_list_set.proofs.Runs.{left, left_begin, left_end, taken, put_part, put_first, put_none}
use Rattle.read_polygon_words.proofs.Below.{both_below}
use Rattle.read_polygon_sides.proofs.put_vertices.Goals as goal

pub loop-k-init : goal.loop-k-init
loop-k-init c = (search rules, c.requires.readable.2, c.requires.readable.3, refl, ap (all_below (total c.args.pages.now.vertices.now)) (left_begin (items_in c.args.pages.now.reader.system.now c.args.pages.now.reader.graphics.now 2 c.args.pages.now.indices.now) c.args.start c.args.count) ∙ c.requires.count_bound.2, put_first vec_words 3 _ _ (left_begin (items_in c.args.pages.now.reader.system.now c.args.pages.now.reader.graphics.now 2 c.args.pages.now.indices.now) c.args.start c.args.count) _)

pub overflow_add-start : goal.overflow_add-start
overflow_add-start c = omega (arith, c.requires.count_bound.0, c.loop-k-test.true, c.requires.readable.1.few)

pub seek-c-requires : goal.seek-c-requires
seek-c-requires c = (c.loop-k.invariant.2, omega (arith, c.requires.count_bound.0, c.loop-k-test.true), c.requires.readable.1.few)

pub overflow_add-start-in-loop-k : goal.overflow_add-start-in-loop-k
overflow_add-start-in-loop-k c = omega (arith, c.requires.count_bound.0, c.loop-k-test.true, c.requires.readable.1.few)

pub list_run-run-requires : goal.list_run-run-requires
list_run-run-requires c = (c.requires.readable.1, c.seek-c.ensures, omega arith)

pub overflow_sub-count : goal.overflow_sub-count
overflow_sub-count c = omega (arith, c.loop-k-test.true)

pub overflow_mul-k : goal.overflow_mul-k
overflow_mul-k c = omega (arith, c.loop-k-test.true, c.requires.count_bound.1, c.well_formed)

pub overflow_add-at : goal.overflow_add-at
overflow_add-at c = omega (arith, c.loop-k-test.true, c.requires.count_bound.1, c.well_formed)

pub put_vertex_run-d-requires : goal.put_vertex_run-d-requires
put_vertex_run-d-requires c =
    let turn = c.loop-k in
    let list-run = c.list_run-run in
    let least = c.min-n in
    let t = taken _ _ 2 _ (omega arith) c.requires.readable.1 c.args.start c.args.count turn.k c.seek-c.ensures list-run.ensures.content least.ensures c.requires.count_bound.0 c.loop-k-test.true in record {
      readable = (c.requires.readable.0, turn.invariant.1, t.long, omega (arith, t.fits, turn.invariant.3, c.requires.count_bound.1));
      run_value = (both_below _ (cut 2 least.result list-run.result.now) (left (items_in c.args.pages.now.reader.system.now c.args.pages.now.reader.graphics.now 2 c.args.pages.now.indices.now) c.args.start c.args.count (turn.k + least.result)) t.step turn.invariant.4).0;
    }

pub overflow_add-k : goal.overflow_add-k
overflow_add-k c = let t = taken _ _ 2 _ (omega arith) c.requires.readable.1 c.args.start c.args.count c.loop-k.k c.seek-c.ensures c.list_run-run.ensures.content c.min-n.ensures c.requires.count_bound.0 c.loop-k-test.true in omega (arith, t.fits, c.requires.count_bound.0, c.requires.readable.1.few)

pub loop-k-smaller : goal.loop-k-smaller
loop-k-smaller c = let t = taken _ _ 2 _ (omega arith) c.requires.readable.1 c.args.start c.args.count c.loop-k.k c.seek-c.ensures c.list_run-run.ensures.content c.min-n.ensures c.requires.count_bound.0 c.loop-k-test.true in omega (arith, t.some, t.fits)

pub loop-k-preserved : goal.loop-k-preserved
loop-k-preserved c =
    let turn = c.loop-k in
    let seek = c.seek-c in
    let list-run = c.list_run-run in
    let least = c.min-n in
    let put-vertex-run = c.put_vertex_run-d in
    let t = taken _ _ 2 _ (omega arith) c.requires.readable.1 c.args.start c.args.count turn.k seek.ensures list-run.ensures.content least.ensures c.requires.count_bound.0 c.loop-k-test.true in (t.fits, put-vertex-run.ensures.cursor, seek.ensures.stands, ap length put-vertex-run.ensures.content ∙ rw (length_put, turn.invariant.3), (both_below _ (cut 2 least.result list-run.result.now) (left (items_in c.args.pages.now.reader.system.now c.args.pages.now.reader.graphics.now 2 c.args.pages.now.indices.now) c.args.start c.args.count (turn.k + least.result)) t.step turn.invariant.4).1, rw put-vertex-run.ensures.content (put_part vec_words 3 vec_three _ _ turn.k least.result (cut 2 least.result list-run.result.now) (left (items_in c.args.pages.now.reader.system.now c.args.pages.now.reader.graphics.now 2 c.args.pages.now.indices.now) c.args.start c.args.count (turn.k + least.result)) t.step (cut_length 2 least.result list-run.result.now) _ ∙ turn.invariant.5))

pub returns : goal.returns
returns c =
    let turn = c.loop-k in
    record {
      vertices = turn.invariant.1;
      indices = turn.invariant.2;
      content = sym (put_none vec_words 3 _ _ turn.k (left_end (items_in c.args.pages.now.reader.system.now c.args.pages.now.reader.graphics.now 2 c.args.pages.now.indices.now) c.args.start c.args.count turn.k c.loop-k-test.false) _) ∙ turn.invariant.5;
    }
