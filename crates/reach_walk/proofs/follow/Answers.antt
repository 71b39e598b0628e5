-- `reach_walk::follow` meets its contract. The invariant: the portals so far are a row of steps. The chain leads down.
use Rattle.std.proofs.Common.{rules, refl}
use Rattle.reach_walk.specs.Walk.{same}
use Rattle.reach_walk.proofs.Work.{worked_more}
use Rattle.reach_walk.proofs.follow.Goals as goal

pub loop-next-init : goal.loop-next-init
loop-next-init c = (refl, same)

pub loop-next-preserved : goal.loop-next-preserved
loop-next-preserved c = (search rules, worked_more _ _ c.loop-next.invariant.1 c.try_portal.ensures)

pub returns : goal.returns
returns c = c.loop-next.invariant.1
