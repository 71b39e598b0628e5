-- `read_polygon_tally::check_run` meets its contract. The loop's invariant: the words so far, and those of what is left, make the whole tally.
use Prim.Native.Nat.{◌+◌, ◌-◌, ◌*◌, ◌≤◌}
use mathlib.Core.Path.{◌≡◌}
use lib.ListN.{drop}
use Rattle.fields.specs.Bytes.{cut}
use Rattle.read_lists.specs.Cursors.{AtPart}
use Rattle.read_list_set.specs.Items.{items_in}
use Rattle.strip.specs.Outcome.{values}
use Rattle.read_polygon_tally.specs.Tally.{words_added, tally_from}
use Rattle.read_polygon_tally.proofs.check_run.Given as goal

abbrev pub invariant-loop-k : goal.invariant-loop-k
invariant-loop-k l = (l.k ≤ l.m) × AtPart l.table l.c × (l.words ≤ 18434 * l.k) × (words_added (values l.words) (tally_from l.limits (items_in l.reader.system.now l.reader.graphics.now 2 l.table) (l.first + l.k) (cut 48 (l.m - l.k) (drop (48 * l.k) l.run))) ≡ tally_from l.limits (items_in l.reader.system.now l.reader.graphics.now 2 l.table) l.first (cut 48 l.m l.run))

abbrev pub decreases-loop-k : goal.decreases-loop-k
decreases-loop-k l = l.m - l.k
