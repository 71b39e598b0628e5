-- `reach::settle` meets its contract: the turns so far are a row of steps, and those that are seen grow in number while there are turns.
use Prim.Native.Nat.{◌-◌}
use lib.ListN.{length}
use mathlib.Core.Path.{◌≡◌}
use Rattle.reach_marks.specs.Marks.{marked}
use Rattle.reach_walk.specs.Walk.{Worked}
use Rattle.reach.proofs.settle.Given as goal

abbrev pub invariant-loop-count : goal.invariant-loop-count
invariant-loop-count l = (l.count ≡ marked l.marks) × (length l.marks ≡ length l.initial.marks) × Worked l.guide.strip.now l.guide.ground l.initial.marks l.marks

abbrev pub decreases-loop-count : goal.decreases-loop-count
decreases-loop-count l = length l.initial.marks - l.count
