-- `strip_check::check_strip` meets its contract. The invariant, `Passed`: the answer is that of the counts so far and of the records from `at` on.
-- The measure is what is left of the strip. In each arm `loop-again` says what the other needs ask.
-- Assumes nothing.
use Prim.Native.Nat.{◌-◌}
use lib.ListN.{length}
use Rattle.strip.proofs.Judged.{Passed}
use Rattle.strip_check.proofs.check_strip.Given as goal

abbrev pub invariant-loop-at : goal.invariant-loop-at
invariant-loop-at l = Passed l.strip l.counts.polys l.counts.portals l.counts.points l.at l.rank

abbrev pub decreases-loop-at : goal.decreases-loop-at
decreases-loop-at l = length l.strip - l.at
