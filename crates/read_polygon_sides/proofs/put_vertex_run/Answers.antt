-- `read_polygon_sides::put_vertex_run` meets its contract. The loop's invariant: storing what is left from here gives what is promised.
use native.Mathlib.Omega.{arith}
use mathlib.Core.Path.{refl, sym, ◌∙◌}
use borrow.Author.Rules.{rules}
use Rattle.strip.specs.Cell.{vec_words}
use Rattle.read_records.proofs.Items.{put_begin, put_end}
use Rattle.read_polygon_words.proofs.Words.{vec_three}
use Rattle.read_polygon_sides.proofs.Near.{holds_first, part_length, held_part, index_below}
use Rattle.read_polygon_sides.proofs.put_vertex_run.Goals as goal

pub loop-k-init : goal.loop-k-init
loop-k-init c = (search rules, c.requires.readable.1, refl, put_begin vec_words 3 vec_three _ _ _ _ _ _)

pub index_at-requires : goal.index_at-requires
index_at-requires c = omega (arith, c.loop-k-test.true, c.requires.readable.2)

pub seek-d-requires : goal.seek-d-requires
seek-d-requires c = (c.loop-k.invariant.1, index_below _ _ _ c.loop-k.k c.loop-k-test.true c.index_at.ensures c.requires.run_value, c.requires.readable.0.few)

pub list_run-part-requires : goal.list_run-part-requires
list_run-part-requires c = (c.requires.readable.0, holds_first c.seek-d.ensures, omega arith)

pub put_near-k-requires : goal.put_near-k-requires
put_near-k-requires c =
    let held = c.seek-d.ensures in
    let long = part_length held _ _ 6 c.requires.readable.0 c.list_run-part.ensures.content in
    let read = c.index_at.ensures in
    (omega (arith, long), c.requires.readable.2, omega (arith, c.loop-k.invariant.2, c.requires.readable.3), c.loop-k-test.true, omega (arith, held.low, read), omega (arith, held.high, read))

pub loop-k-smaller : goal.loop-k-smaller
loop-k-smaller c = omega (arith, c.put_near-k.ensures.progress, c.put_near-k.ensures.content.most)

pub loop-k-preserved : goal.loop-k-preserved
loop-k-preserved c =
    let near = c.put_near-k.ensures.content in
    let held = c.seek-d.ensures in
    (near.most, held.stands, near.same_length ∙ c.loop-k.invariant.2, near.strip _ (held_part held _ _ 6 c.requires.readable.0 c.list_run-part.ensures.content) ∙ c.loop-k.invariant.3)

pub returns : goal.returns
returns c =
    let turn = c.loop-k in
    record {
      cursor = turn.invariant.1;
      content = sym (put_end vec_words 3 vec_three _ _ _ _ _ turn.k _ c.loop-k-test.false) ∙ turn.invariant.3;
    }
