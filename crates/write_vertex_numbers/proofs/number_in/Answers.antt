-- `write_vertex_numbers::number_in` meets its contract: as `number_all`, with the table as the tail of the one slice (`Parts`).
use Prim.Native.Nat.{ℕ, ◌-◌, ◌≤◌}
use native.Mathlib.Omega.{arith}
use mathlib.Core.Path.{◌≡◌, refl, ◌∙◌}
use mathlib.Core.List.{List}
use lib.ListN.{length, take, drop, length-drop}
use lib.Seq.{length-take-le}
use borrow.Rule.Slice.PartMut.{put_mid}
use Rattle.write_vertices.specs.Table.{met}
use Rattle.write_vertices.proofs.Triples.{length_met}
use Rattle.write_vertex_numbers.proofs.Numbering.{Step, start, given_at, turn, over, number_le, done}
use Rattle.fields.proofs.Puts.{lent}
use Rattle.write_vertex_numbers.proofs.Parts.{back_take, back_length, back_drop, store_length, store_drop, store_take}
use Rattle.write_vertices.proofs.Trees.{tree_left}
use Rattle.write_vertex_numbers.proofs.OneSlice.{tail_cleared, finish}
use Rattle.write_vertex_numbers.proofs.number_in.Goals as goal
use Rattle.write_vertex_numbers.proofs.number_in.Goals.{After-vertex_index, At-loop-i}

-- at the loop's head: the slice is as long as it was lent, so the tail begins within it
long : (c : At-loop-i) →
    length c.loop-i.work ≡ length c.args.work.now
long c =
    let a = c.args in
    c.loop-i.invariant.0 ∙ back_length a.m a.work.now (omega (arith, c.requires)) c.clear.new.table c.clear.auto.table

within : (c : At-loop-i) →
    c.args.m ≤ length c.loop-i.work
within c =
    omega (arith, long c, c.requires)

-- the words at the loop's start: the tail's roots are cleared
abbrev begun : (c : At-loop-i) → List ℕ
begun c =
    let a = c.args in
    put_mid a.m (length a.work.now - a.m) a.work.now c.clear.new.table

-- after a lookup
step : (c : After-vertex_index) →
    let a = c.args in
    let at = c.loop-i in
    Step (met a.triples.now 0 a.m) a.m a.buckets (drop a.m (begun (goal.at.After-vertex_index c).At-loop-i)) (take a.m (begun (goal.at.After-vertex_index c).At-loop-i))
    (drop a.m at.work) (take a.m at.work) at.n at.i c.whole_triple_at-triple.result c.vertex_index.new.table c.vertex_index.result
step c =
    record {
      going = c.loop-i.invariant.1;
      size = length_met _ _ _;
      more = c.loop-i-test.true;
      key = given_at _ _ _ _ c.loop-i-test.true c.whole_triple_at-triple.ensures.triple;
      looked = rw (lent _ _) at c.vertex_index.ensures;
    }

pub loop-i-init : goal.loop-i-init
loop-i-init c =
    let a = c.args in
    let w = a.work.now in
    let h : a.m ≤ length w = omega (arith, c.requires) in
    (refl, start _ _ _ (drop a.m w) _ _ c.requires.0 c.requires.1 (omega (arith, c.requires, length-drop a.m w)) (tail_cleared a.m _ w h _ c.clear.auto.table c.clear.ensures))

pub whole_triple_at-triple-requires : goal.whole_triple_at-triple-requires
whole_triple_at-triple-requires c = omega (arith, c.loop-i-test.true, c.requires.2)

pub vertex_index-requires : goal.vertex_index-requires
vertex_index-requires c =
    let g = c.loop-i.invariant.1 in
    let a = c.args in
    rw (lent a.m c.loop-i.work)
    (record { table = g.table; trees = tree_left a.m _ _ c.requires.4 (omega (arith, g.few, c.loop-i-test.true)); more = omega (arith, g.few, length-drop a.m c.loop-i.work, long (goal.at.vertex_index-requires c).At-loop-i, c.loop-i-test.true, c.requires); short = c.whole_triple_at-triple.ensures.bound })

pub overflow_cast-work : goal.overflow_cast-work
overflow_cast-work c = omega (arith, number_le (step (goal.at.overflow_cast-work c).After-vertex_index) c.in-Some.is)

pub returns-in_default : goal.returns-in_default
returns-in_default c =
    let a = c.args in
    let w = c.loop-i.work in
    let h = within (goal.at.returns-in_default c).At-loop-i in
    let f = c.vertex_index in
    let first = c.clear in
    let fits = c.requires in
    finish a.m _ a.work.now (omega (arith, fits)) first.new.table first.auto.table first.ensures (omega (arith, fits)) _ _ _
    (rw (back_drop a.m w h f.new.table f.auto.table, back_take a.m w h f.new.table f.auto.table) (over (step (goal.at.returns-in_default c).After-vertex_index) c.in_default.is))

pub loop-i-preserved : goal.loop-i-preserved
loop-i-preserved c =
    let m = c.args.m in
    let at = c.loop-i in
    let h = within (goal.at.loop-i-preserved c).At-loop-i in
    let f = c.vertex_index in
    let e = f.new.table in
    let l = f.auto.table in
    let k = c.in-Some.known.number in
    let q = c.loop-i-test.true in (
      store_length m at.work h e l at.i k ∙ at.invariant.0,
      rw (store_drop m at.work h e l at.i k (omega arith), store_take m at.work h e l at.i k (omega arith))
          (turn (step (goal.at.loop-i-preserved c).After-vertex_index) c.in-Some.is (omega (arith, at.invariant.1.left.long, length-take-le m at.work h))),
    )

pub returns : goal.returns
returns c =
    let a = c.args in
    let first = c.clear in
    let fits = c.requires in
    finish a.m _ a.work.now (omega (arith, fits)) first.new.table first.auto.table first.ensures (omega (arith, fits)) _ _ _
    (done _ _ _ _ _ _ _ _ _ (length_met _ _ _) c.loop-i-test.false c.loop-i.invariant.1)
