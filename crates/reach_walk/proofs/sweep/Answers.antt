-- `reach_walk::sweep` meets its contract. The invariant: of the polygons so far none is left over that was seen at first.
use Rattle.std.proofs.Common.{rules, arith, refl}
use Rattle.reach_walk.specs.Walk.{same}
use Rattle.reach_walk.proofs.Work.{sweep_turn, sweep_end, known_still}
use Rattle.reach_walk.proofs.sweep.Goals as goal

pub loop-i-init : goal.loop-i-init
loop-i-init c = (refl, record { worked = same; done = λ k h. absurd (omega arith) })

pub start_from-requires : goal.start_from-requires
start_from-requires c = known_still _ _ c.loop-i.invariant.0 c.requires

pub loop-i-preserved : goal.loop-i-preserved
loop-i-preserved c = (search rules, sweep_turn _ _ c.loop-i.invariant.1 c.start_from.ensures)

pub returns : goal.returns
returns c = sweep_end _ _ c.loop-i.invariant.1 (omega arith)
