-- `reach_walk::drain` meets its contract. The invariant: the polygons so far are a row of steps.
use Rattle.std.proofs.Common.{rules, refl}
use Rattle.reach_walk.specs.Walk.{same}
use Rattle.reach_walk.proofs.Work.{worked_more, known_still}
use Rattle.reach_walk.proofs.drain.Goals as goal

pub loop-init : goal.loop-init
loop-init c = (refl, same)

pub leave-requires : goal.leave-requires
leave-requires c = known_still _ _ c.loop.invariant.0 c.requires

pub loop-preserved : goal.loop-preserved
loop-preserved c = (search rules, worked_more _ _ c.loop.invariant.1 c.leave.ensures.worked)

pub returns : goal.returns
returns c = c.loop.invariant.1
