-- `reach_walk::follow` meets its contract. The invariant: the portals so far are a row of steps. The chain leads down.
use Rattle.std.proofs.Common.{◌≡◌, length}
use Rattle.reach_walk.specs.Walk.{Worked}
use Rattle.reach_walk.proofs.Work.{chain_left}
use Rattle.reach_walk.proofs.follow.Given as goal

abbrev pub invariant-loop-next : goal.invariant-loop-next
invariant-loop-next l = (length l.marks ≡ length l.initial.marks) × Worked l.guide.strip.now l.guide.ground l.initial.marks l.marks

abbrev pub decreases-loop-next : goal.decreases-loop-next
decreases-loop-next l = chain_left l.next
