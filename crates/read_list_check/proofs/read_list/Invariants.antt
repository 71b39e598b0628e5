-- `read_list_check::read_list` meets its contract. The loop's invariant: the parts before k are good, and total is how many items they have.
use mathlib.Core.Path.{◌≡◌}
use Prim.Native.Nat.{◌*◌, ◌≤◌}
use Rattle.read_lists.specs.Lists.{before, good_to}
use mathlib.Core.Bool.{true}
use Rattle.read_list_check.proofs.read_list.Given as goal

abbrev pub invariant-loop-k : goal.invariant-loop-k
invariant-loop-k l = (l.total ≡ before l.table l.k) × (l.total ≤ 4294967295 * l.k) × (good_to l.reader.system.now l.reader.graphics.now l.item_size l.table l.k ≡ true)
