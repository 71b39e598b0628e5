-- The proof of the cycle of calls {write_sector}. The measure is the depth. Where the box splits, what is known there (`Splitting`) goes through the laws of proofs/Steps: each sub's
-- call has room behind what was written before it. Assumes nothing.
use Prim.Native.Nat.{ℕ, ◌-◌, ◌<◌}
use mathlib.Core.Path.{◌≡◌, refl}
use native.Mathlib.Omega.{arith}
use lib.ListN.{length}
use Rattle.strip.specs.Rows.{points_at}
use Rattle.write_pages.specs.Sectors.{leaf_ids, from0}
use Rattle.write_leaf_counts.specs.Work.{boxes_in, picked_from}
use Rattle.write_quadtree.proofs.Dividing.{down, four}
use Rattle.write_leaves.specs.declared.SectorCursor.{SectorCursor}
use Rattle.write_sectors.proofs.Steps.{Stand, Splitting, first_small, next0, next1, next2, next3, grown_wrote}
use Rattle.write_blocks.proofs.Layouts.{at_of}
use Rattle.write_sectors.proofs.+write_sector.Goals as goal
use Rattle.write_sectors.proofs.+write_sector.Goals.{After-alloc-l0}

module _ (t : ℕ) where
  -- what is known where the box was split, and where the writer stands behind the sector's own place
  abbrev of : After-alloc-l0 t → Splitting
  of c =
      let subs-are = c.split-subs.ensures in
      record {
        bb_min = c.args.points.frame.bb_min;
        bb_size = c.args.points.frame.bb_size;
        ids = λ q. leaf_ids q 0 (boxes_in c.args.boxes.now);
        stored = λ k. picked_from c.args.leaf_numbers.now k 0 (points_at c.args.strip.now c.args.points.at (length c.args.leaf_numbers.now));
        depth = c.args.depth;
        d = c.args.depth - 1;
        b = c.args.b;
        cursor = c.args.cursor;
        subs = c.split-subs.result;
        boxes = (subs-are.s0, subs-are.s1, subs-are.s2, subs-are.s3);
        deep = down c.args.depth c.if-depth-eq0.false;
        numbers = omega (arith, four c.args.depth c.if-depth-eq0.false, c.requires.depth_bound.0);
        room = c.requires.tree_room;
      }

  abbrev p0 : After-alloc-l0 t → SectorCursor
  p0 c = record { layout = c.alloc-l0.result; leaf = c.args.cursor.leaf; first = c.args.cursor.first }

  stand0 : (c : After-alloc-l0 t) → Stand (p0 c) (from0 c.args.cursor.layout.at) c.args.cursor.leaf c.args.cursor.first
  stand0 c = record { ends = at_of c.alloc-l0.ensures; leaves = refl; points = refl }

  -- the measure falls
  below : (c : After-alloc-l0 t) → c.args.depth - 1 < t
  below c = omega (arith, c.decreases, down c.args.depth c.if-depth-eq0.false)

pub write_leaf-requires : goal.write_leaf-requires
write_leaf-requires t c =
    let z : c.args.depth ≡ 0 = c.if-depth-eq0.true in
    record { leaf_bound = (rw z at c.requires.depth_bound.0, c.requires.depth_bound.1); tree_room = rw z at c.requires.tree_room }

pub returns-then-depth-eq0 : goal.returns-then-depth-eq0
returns-then-depth-eq0 t c = rw c.if-depth-eq0.true c.write_leaf.ensures

pub pad-at-requires : goal.pad-at-requires
pad-at-requires t c = first_small _ c.requires.tree_room

pub alloc-l0-requires : goal.alloc-l0-requires
alloc-l0-requires t c = first_small _ c.requires.tree_room

pub write_sector-p1-requires : goal.write_sector-p1-requires
write_sector-p1-requires t c =
    let k = (goal.at.write_sector-p1-requires t c).After-alloc-l0 in
    let r = next0 (of t k) (stand0 t k) in
    (below t k, ((r.numbers, c.requires.depth_bound.1), r.room))

pub write_sector-p2-requires : goal.write_sector-p2-requires
write_sector-p2-requires t c =
    let k = (goal.at.write_sector-p2-requires t c).After-alloc-l0 in
    let r = next1 (of t k) (stand0 t k) c.write_sector-p1.ensures in
    (below t k, ((r.numbers, c.requires.depth_bound.1), r.room))

pub write_sector-p3-requires : goal.write_sector-p3-requires
write_sector-p3-requires t c =
    let k = (goal.at.write_sector-p3-requires t c).After-alloc-l0 in
    let r = next2 (of t k) (stand0 t k) c.write_sector-p1.ensures c.write_sector-p2.ensures in
    (below t k, ((r.numbers, c.requires.depth_bound.1), r.room))

pub write_sector-p4-requires : goal.write_sector-p4-requires
write_sector-p4-requires t c =
    let k = (goal.at.write_sector-p4-requires t c).After-alloc-l0 in
    let r = next3 (of t k) (stand0 t k) c.write_sector-p1.ensures c.write_sector-p2.ensures c.write_sector-p3.ensures in
    (below t k, ((r.numbers, c.requires.depth_bound.1), r.room))

pub put_node-requires : goal.put_node-requires
put_node-requires t c =
    let k = (goal.at.put_node-requires t c).After-alloc-l0 in
    let f = of t k in
    let s = stand0 t k in
    let w0 = c.write_sector-p1.ensures in
    let w1 = c.write_sector-p2.ensures in (
      first_small _ (next0 f s).room,
      first_small _ (next1 f s w0).room,
      first_small _ (next2 f s w0 w1).room,
      first_small _ (next3 f s w0 w1 c.write_sector-p3.ensures).room,
    )

pub returns : goal.returns
returns t c =
    let k = (goal.at.returns t c).After-alloc-l0 in
    grown_wrote (of t k) (stand0 t k) c.write_sector-p1.ensures c.write_sector-p2.ensures c.write_sector-p3.ensures c.args.out.now c.alloc-l0.ensures c.pad-at.ensures.out
    c.write_sector-p4.ensures c.pad-at.ensures.start c.put_node.ensures
