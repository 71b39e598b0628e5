-- `write_plan::put_leaves` meets its contract. The invariant, `Leafing`: the leaves that are left, stored from here, make the whole. Assumes nothing.
use mathlib.Core.Path.{◌∙◌}
use native.Mathlib.Omega.{arith}
use Rattle.write_plan.proofs.Stored.{leafing_start, leafing_turn, leafing_done}
use Rattle.write_plan.proofs.put_leaves.Goals as goal

pub depth_of-depth-requires : goal.depth_of-depth-requires
depth_of-depth-requires c = tt

pub lines_of-lines-requires : goal.lines_of-lines-requires
lines_of-lines-requires c = tt

pub loop-i-init : goal.loop-i-init
loop-i-init c = leafing_start _ _ _ _ _ _

pub floats_at-p-requires : goal.floats_at-p-requires
floats_at-p-requires c = omega (arith, c.loop-i-test.true, c.requires.0)

pub leaf_of-requires : goal.leaf_of-requires
leaf_of-requires c =
    let depth = c.depth_of-depth.ensures in
    (c.lines_of-lines.ensures, depth.bound, depth.even)

pub overflow_add-work : goal.overflow_add-work
overflow_add-work c = omega (arith, c.loop-i-test.true, c.requires.1, c.well_formed)

pub offset_bounds-work-base : goal.offset_bounds-work-base
offset_bounds-work-base c = omega (arith, c.loop-i-test.true, c.requires.1, c.loop-i.invariant.long, c.well_formed)

pub bounds-work-base : goal.bounds-work-base
bounds-work-base c = omega (arith, c.loop-i-test.true, c.requires.1, c.loop-i.invariant.long)

pub loop-i-preserved : goal.loop-i-preserved
loop-i-preserved c = leafing_turn _ _ _ _ _ _ _ _ c.loop-i.invariant c.loop-i-test.true _ (c.leaf_of.ensures ∙ rw (c.depth_of-depth.ensures.depth, c.floats_at-p.ensures))

pub returns : goal.returns
returns c = leafing_done _ _ _ _ _ _ _ _ c.loop-i.invariant c.loop-i-test.false
