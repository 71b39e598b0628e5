-- `read_polygon_tally::run_below` meets its contract. The loop's invariant: what is left of the run is below exactly when all of it is.
use Prim.Native.Nat.{◌-◌, ◌≤◌}
use mathlib.Core.Path.{◌≡◌}
use lib.ListN.{take, drop}
use Rattle.read_lists.specs.Cursors.{AtPart}
use Rattle.read_polygon_words.specs.Words.{all_below}
use Rattle.read_list_set.specs.Items.{items_in}
use Rattle.read_list_set.proofs.Runs.{left}
use Rattle.read_polygon_tally.proofs.run_below.Given as goal

abbrev pub invariant-loop-k : goal.invariant-loop-k
invariant-loop-k l = (l.k ≤ l.count) × AtPart l.table l.c × (all_below l.limit (left (items_in l.reader.system.now l.reader.graphics.now 2 l.table) l.start l.count l.k) ≡ all_below l.limit (take l.count (drop l.start (items_in l.reader.system.now l.reader.graphics.now 2 l.table))))

abbrev pub decreases-loop-k : goal.decreases-loop-k
decreases-loop-k l = l.count - l.k
