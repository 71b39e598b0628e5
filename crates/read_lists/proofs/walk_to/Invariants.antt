-- `read_lists::walk_to` meets its contract. The loop's invariant: the cursor stands at a part that doesn't begin behind item i. The measure is what is left of the table.
use Prim.Native.Nat.{◌-◌, ◌≤◌}
use Rattle.read_lists.specs.Lists.{parts}
use Rattle.read_lists.specs.Cursors.{AtPart}
use Rattle.read_lists.proofs.walk_to.Given as goal

abbrev pub invariant-loop-c : goal.invariant-loop-c
invariant-loop-c l = AtPart l.table l.c × (l.c.first ≤ l.i)

abbrev pub decreases-loop-c : goal.decreases-loop-c
decreases-loop-c l = parts l.table - l.c.part
