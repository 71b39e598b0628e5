-- `read_polygons::put_polygons` meets its contract. The loop's invariant is `Going`: storing what is left from here gives what is promised.
use Prim.Native.Nat.{◌-◌, ◌≤◌}
use lib.ListN.{drop}
use Rattle.read_lists.specs.Cursors.{AtPart}
use Rattle.read_list_set.specs.Items.{items_in}
use Rattle.read_polygons.proofs.InOrder.{Going}
use Rattle.read_polygons.proofs.put_polygons.Given as goal

abbrev pub invariant-loop-i : goal.invariant-loop-i
invariant-loop-i l = (l.i ≤ l.n) × AtPart l.polys l.p × Going l.pages.reader.system.now l.pages.reader.graphics.now l.pages.vertices.now l.pages.indices.now l.pages.edges.now l.pages.links.now l.pages.header.now l.pages.frame.bb_min l.pages.frame.bb_size (items_in l.pages.reader.system.now l.pages.reader.graphics.now 48 l.polys) l.initial.out l.at l.out l.c l.e (drop l.i (items_in l.pages.reader.system.now l.pages.reader.graphics.now 48 l.polys))

abbrev pub decreases-loop-i : goal.decreases-loop-i
decreases-loop-i l = l.n - l.i
