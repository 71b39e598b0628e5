-- `write_runs::make_strip` meets its contract. The loop's invariant: the runs passed are made. The measure is how many bytes of runs are left.
use Prim.Native.Nat.{◌-◌}
use lib.ListN.{length}
use Rattle.write_runs.proofs.Made.{Making}
use Rattle.write_runs.proofs.make_strip.Given as goal

abbrev pub invariant-loop-at : goal.invariant-loop-at
invariant-loop-at l = Making l.runs l.initial.strip l.strip l.at l.made

abbrev pub decreases-loop-at : goal.decreases-loop-at
decreases-loop-at l = length l.runs - l.at
