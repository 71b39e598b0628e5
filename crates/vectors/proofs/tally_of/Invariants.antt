-- The loop's invariant: the tally is of the records passed. The measure is how many words are left.
use Rattle.std.proofs.Common.{length, ◌-◌, ◌≤◌}
use Rattle.replay.specs.Tallies.{Tallied}
use Rattle.leaf_replay.specs.Agreement.{PassedAt}
use Rattle.vectors.proofs.tally_of.Given as goal

abbrev pub invariant-loop-at : goal.invariant-loop-at
invariant-loop-at l = (l.at ≤ length l.fn.words) × PassedAt l.fn.words l.fn.low l.fn.high l.at l.t × Tallied (length l.fn.words) l.at l.t

abbrev pub decreases-loop-at : goal.decreases-loop-at
decreases-loop-at l = length l.fn.words - l.at
