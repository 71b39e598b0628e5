-- `read_polygon_tally::check_polygons` meets its contract. The loop's invariant: the words so far, and those of what is left, make the whole tally.
use Prim.Native.Nat.{◌-◌, ◌*◌, ◌≤◌}
use mathlib.Core.Path.{◌≡◌}
use lib.ListN.{drop}
use Rattle.read_lists.specs.Cursors.{AtPart}
use Rattle.read_list_set.specs.Items.{items_in}
use Rattle.strip.specs.Outcome.{values}
use Rattle.read_polygon_tally.specs.Tally.{words_added, tally_from}
use Rattle.read_polygon_tally.proofs.check_polygons.Given as goal

abbrev pub invariant-loop-i : goal.invariant-loop-i
invariant-loop-i l = (l.i ≤ l.n) × AtPart l.polys l.p × AtPart l.table l.c × (l.words ≤ 18434 * l.i) × (words_added (values l.words) (tally_from l.limits (items_in l.reader.system.now l.reader.graphics.now 2 l.table) l.i (drop l.i (items_in l.reader.system.now l.reader.graphics.now 48 l.polys))) ≡ tally_from l.limits (items_in l.reader.system.now l.reader.graphics.now 2 l.table) 0 (items_in l.reader.system.now l.reader.graphics.now 48 l.polys))

abbrev pub decreases-loop-i : goal.decreases-loop-i
decreases-loop-i l = l.n - l.i
