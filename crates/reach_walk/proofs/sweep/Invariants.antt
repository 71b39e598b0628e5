-- `reach_walk::sweep` meets its contract. The invariant: of the polygons so far none is left over that was seen at first.
use Rattle.std.proofs.Common.{◌≡◌, length}
use Rattle.reach_walk.proofs.Work.{Sweeping}
use Rattle.reach_walk.proofs.sweep.Given as goal

abbrev pub invariant-loop-i : goal.invariant-loop-i
invariant-loop-i l = (length l.marks ≡ length l.initial.marks) × Sweeping l.guide.strip.now l.guide.ground l.initial.marks l.i l.marks
