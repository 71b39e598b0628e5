-- `reach_walk::drain` meets its contract. The invariant: the polygons so far are a row of steps.
use Rattle.std.proofs.Common.{◌≡◌, length}
use Rattle.reach_walk.specs.Walk.{Worked}
use Rattle.reach_walk.proofs.drain.Given as goal

abbrev pub invariant-loop : goal.invariant-loop
invariant-loop l = (length l.marks ≡ length l.initial.marks) × Worked l.guide.strip.now l.guide.ground l.initial.marks l.marks
