-- `reach_walk::try_portal` meets its contract: one portal's step, or none.
use Rattle.reach_walk.specs.Walk.{same, portal}
use Rattle.reach_walk.proofs.try_portal.Goals as goal

pub returns-then-k-g : goal.returns-then-k-g
returns-then-k-g c = rw c.cross.ensures (portal same _ c.if-k-g.true)

pub returns-else-k-g : goal.returns-else-k-g
returns-else-k-g c = same
