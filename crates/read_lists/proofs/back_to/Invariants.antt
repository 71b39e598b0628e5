-- `read_lists::back_to` meets its contract. The loop's invariant: the cursor stands at a part. The measure is that part's number.
use Rattle.read_lists.specs.Cursors.{AtPart}
use Rattle.read_lists.proofs.back_to.Given as goal

abbrev pub invariant-loop-c : goal.invariant-loop-c
invariant-loop-c l = AtPart l.table l.c

abbrev pub decreases-loop-c : goal.decreases-loop-c
decreases-loop-c l = l.c.part
