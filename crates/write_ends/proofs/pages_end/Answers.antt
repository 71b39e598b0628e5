-- `write_ends::pages_end` meets its contract: the counts and the words behind the tables give the sizes of the cell's pages.
use native.Mathlib.Omega.{arith}
use lib.ListN.{length}
use Rattle.write_decide.proofs.Places.{Cut, cut}
use Rattle.write_ends.proofs.Planned.{planned_ends, planned_small}
use Rattle.write_ends.proofs.pages_end.Goals as goal
use Rattle.write_ends.proofs.pages_end.Goals.{After-work_places-places}

pub work_places-places-requires : goal.work_places-places-requires
work_places-places-requires c = omega (arith, c.requires.held.room, c.well_formed)

-- the places in work, behind the call that gives them
places : (c : After-work_places-places) → Cut (length c.args.strip.now) c.args.d.counts c.work_places-places.result
places c = cut (length c.args.strip.now) c.args.d.counts c.work_places-places.ensures

pub offset_bounds-work-places : goal.offset_bounds-work-places
offset_bounds-work-places c = omega (arith, c.requires.held.room, c.well_formed, places (goal.at.offset_bounds-work-places c).After-work_places-places)

pub slice_bounds-blocks_end-count : goal.slice_bounds-blocks_end-count
slice_bounds-blocks_end-count c = omega (arith, places (goal.at.slice_bounds-blocks_end-count c).After-work_places-places)

pub slice_bounds-blocks_end-start : goal.slice_bounds-blocks_end-start
slice_bounds-blocks_end-start c = omega (arith, places (goal.at.slice_bounds-blocks_end-start c).After-work_places-places)

pub slice_bounds-blocks_end-end : goal.slice_bounds-blocks_end-end
slice_bounds-blocks_end-end c = omega (arith, c.requires.held.room, places (goal.at.slice_bounds-blocks_end-end c).After-work_places-places)

pub offset_bounds-work-places-2 : goal.offset_bounds-work-places-2
offset_bounds-work-places-2 c = omega (arith, c.requires.held.room, c.well_formed, places (goal.at.offset_bounds-work-places-2 c).After-work_places-places)

pub slice_bounds-blocks_end-count-2 : goal.slice_bounds-blocks_end-count-2
slice_bounds-blocks_end-count-2 c = omega (arith, places (goal.at.slice_bounds-blocks_end-count-2 c).After-work_places-places)

pub slice_bounds-blocks_end-start-2 : goal.slice_bounds-blocks_end-start-2
slice_bounds-blocks_end-start-2 c = omega (arith, places (goal.at.slice_bounds-blocks_end-start-2 c).After-work_places-places)

pub slice_bounds-blocks_end-end-2 : goal.slice_bounds-blocks_end-end-2
slice_bounds-blocks_end-end-2 c = omega (arith, c.requires.held.room, places (goal.at.slice_bounds-blocks_end-end-2 c).After-work_places-places)

pub blocks_end-requires : goal.blocks_end-requires
blocks_end-requires c = planned_small _ _ c.args.d c.requires _ c.work_places-places.ensures _ c.root_box.ensures

pub returns : goal.returns
returns c = let w = planned_ends _ _ c.args.d c.requires _ c.work_places-places.ensures _ c.root_box.ensures c.blocks_end.ensures.end c.blocks_end.ensures.sectors in record { end = w.0; sectors = w.1 }
