-- `read_polygons::put_run` meets its contract. The loop's invariant is `Going`: storing what is left from here gives what is promised.
use Prim.Native.Nat.{◌-◌, ◌*◌, ◌≤◌}
use lib.ListN.{drop}
use Rattle.fields.specs.Bytes.{cut}
use Rattle.read_polygons.proofs.InOrder.{Going}
use Rattle.read_polygons.proofs.put_run.Given as goal

abbrev pub invariant-loop-k : goal.invariant-loop-k
invariant-loop-k l = (l.k ≤ l.m) × Going l.pages.reader.system.now l.pages.reader.graphics.now l.pages.vertices.now l.pages.indices.now l.pages.edges.now l.pages.links.now l.pages.header.now l.pages.frame.bb_min l.pages.frame.bb_size (cut 48 l.m l.run) l.initial.out l.at l.out l.c l.e (cut 48 (l.m - l.k) (drop (48 * l.k) l.run))

abbrev pub decreases-loop-k : goal.decreases-loop-k
decreases-loop-k l = l.m - l.k
