-- `write_rest::fill_sectors` meets its contract: the parts of work hold the boxes and leaves of the cell's tree, whose points stand from `first_point` on. Assumes nothing.
use mathlib.Core.Path.{refl}
use native.Mathlib.Omega.{arith}
use lib.ListN.{length}
use Rattle.write_decide.proofs.Places.{Cut, cut}
use Rattle.write_rest.proofs.Tree.{points_inside, leaves_few, sectors_ask, sectors_filled}
use Rattle.write_rest.proofs.fill_sectors.Goals as goal
use Rattle.write_rest.proofs.fill_sectors.Goals.{After-work_places-places}

pub work_places-places-requires : goal.work_places-places-requires
work_places-places-requires c = omega (arith, c.requires.0.held.room, c.well_formed)

pub first_point-requires : goal.first_point-requires
first_point-requires c = c.requires.0.length_is

-- the places in work, behind the call that gives them
places : (c : After-work_places-places) → Cut (length c.args.strip.now) c.args.n c.work_places-places.result
places c = cut (length c.args.strip.now) c.args.n c.work_places-places.ensures

pub offset_bounds-work-places : goal.offset_bounds-work-places
offset_bounds-work-places c = omega (arith, c.requires.0.held.room, places (goal.at.offset_bounds-work-places c).After-work_places-places, c.well_formed)

pub slice_bounds-write_sector-count : goal.slice_bounds-write_sector-count
slice_bounds-write_sector-count c = omega (arith, places (goal.at.slice_bounds-write_sector-count c).After-work_places-places)

pub slice_bounds-write_sector-start : goal.slice_bounds-write_sector-start
slice_bounds-write_sector-start c = omega (arith, places (goal.at.slice_bounds-write_sector-start c).After-work_places-places)

pub slice_bounds-write_sector-end : goal.slice_bounds-write_sector-end
slice_bounds-write_sector-end c = omega (arith, c.requires.0.held.room, places (goal.at.slice_bounds-write_sector-end c).After-work_places-places)

pub offset_bounds-work-places-2 : goal.offset_bounds-work-places-2
offset_bounds-work-places-2 c = omega (arith, c.requires.0.held.room, places (goal.at.offset_bounds-work-places-2 c).After-work_places-places, c.well_formed)

pub slice_bounds-write_sector-count-2 : goal.slice_bounds-write_sector-count-2
slice_bounds-write_sector-count-2 c = omega (arith, places (goal.at.slice_bounds-write_sector-count-2 c).After-work_places-places)

pub slice_bounds-write_sector-start-2 : goal.slice_bounds-write_sector-start-2
slice_bounds-write_sector-start-2 c = omega (arith, places (goal.at.slice_bounds-write_sector-start-2 c).After-work_places-places)

pub slice_bounds-write_sector-end-2 : goal.slice_bounds-write_sector-end-2
slice_bounds-write_sector-end-2 c = omega (arith, c.requires.0.held.room, places (goal.at.slice_bounds-write_sector-end-2 c).After-work_places-places)

pub write_sector-requires : goal.write_sector-requires
write_sector-requires c =
    let deep = c.depth_of-depth.ensures.depth in
    let first = c.first_point.ensures in
    let root = c.root_box.ensures in
    let s = c.args.strip.now in
    let w = c.args.work.now in
    let n = c.args.n in
    let K = c.requires.0 in
    let at = c.work_places-places in record {
      depth_bound = (
        leaves_few s w n K at.result at.ensures _ _ _ first _ c.requires.2 deep root,
        points_inside s w n K at.result at.ensures _ _ _ first _ c.requires.2 deep root,
      );
      tree_room = sectors_ask s w n K at.result at.ensures _ _ _ first _ c.requires.2 deep root _ c.requires.1;
    }

pub returns : goal.returns
returns c =
    let first = c.first_point.ensures in
    let at = c.work_places-places in
    sectors_filled c.args.strip.now c.args.work.now c.args.n c.requires.0 at.result at.ensures _ _ _ first _ c.requires.2 c.depth_of-depth.ensures.depth c.root_box.ensures c.requires.1 refl (rw c.frame.ensures at c.write_sector.ensures)
