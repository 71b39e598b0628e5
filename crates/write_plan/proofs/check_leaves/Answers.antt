-- `write_plan::check_leaves` meets its contract: the words that are lent on hold the boxes and the leaves, so that the tree by them is the cell's.
use native.Mathlib.Omega.{arith}
use lib.ListN.{length}
use Rattle.strip.specs.Reading.{head_at}
use Rattle.cell_record.specs.Record.{record_of}
use Rattle.write_decide.proofs.Places.{cut}
use Rattle.write_plan.proofs.Rest.{leaf_told}
use Rattle.write_plan.proofs.check_leaves.Goals as goal

pub work_places-places-requires : goal.work_places-places-requires
work_places-places-requires c = omega (arith, c.requires.1.room, c.well_formed)

pub depth_of-depth-requires : goal.depth_of-depth-requires
depth_of-depth-requires c = tt

pub offset_bounds-work-boxes : goal.offset_bounds-work-boxes
offset_bounds-work-boxes c = omega (arith, c.requires.1.room, c.well_formed, cut (length c.args.strip.now) c.args.counts c.work_places-places.ensures)

pub slice_bounds-check_leaves-count : goal.slice_bounds-check_leaves-count
slice_bounds-check_leaves-count c = omega (arith, cut (length c.args.strip.now) c.args.counts c.work_places-places.ensures)

pub slice_bounds-check_leaves-start : goal.slice_bounds-check_leaves-start
slice_bounds-check_leaves-start c = omega (arith, cut (length c.args.strip.now) c.args.counts c.work_places-places.ensures)

pub slice_bounds-check_leaves-end : goal.slice_bounds-check_leaves-end
slice_bounds-check_leaves-end c = omega (arith, c.requires.1.room, cut (length c.args.strip.now) c.args.counts c.work_places-places.ensures)

pub offset_bounds-work-leaves : goal.offset_bounds-work-leaves
offset_bounds-work-leaves c = omega (arith, c.requires.1.room, c.well_formed, cut (length c.args.strip.now) c.args.counts c.work_places-places.ensures)

pub slice_bounds-check_leaves-count-2 : goal.slice_bounds-check_leaves-count-2
slice_bounds-check_leaves-count-2 c = omega (arith, cut (length c.args.strip.now) c.args.counts c.work_places-places.ensures)

pub slice_bounds-check_leaves-start-2 : goal.slice_bounds-check_leaves-start-2
slice_bounds-check_leaves-start-2 c = omega (arith, cut (length c.args.strip.now) c.args.counts c.work_places-places.ensures)

pub slice_bounds-check_leaves-end-2 : goal.slice_bounds-check_leaves-end-2
slice_bounds-check_leaves-end-2 c = omega (arith, c.requires.1.room, cut (length c.args.strip.now) c.args.counts c.work_places-places.ensures)

pub returns : goal.returns
unfolding head_at record_of
returns c =
    let root = rw c.requires.0 at c.root_box-b.ensures in
    let deep = rw c.requires.0 at c.depth_of-depth.ensures.depth in
    leaf_told _ _ _ c.requires.1 _ c.work_places-places.ensures _ _ c.check_leaves.result root deep c.check_leaves.ensures
