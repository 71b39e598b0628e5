-- `read_polygon_sides::put_edges` meets its contract. The loop's invariant: storing what is left from here gives what is promised.
use Prim.Native.Nat.{◌+◌, ◌-◌, ◌*◌, ◌≤◌}
use mathlib.Core.Path.{◌≡◌}
use mathlib.Core.List.{map}
use lib.ListN.{length, take, drop}
use Rattle.fields.specs.Put.{put}
use Rattle.strip.specs.Cell.{each, edge_words}
use Rattle.read_grammar.specs.Polygons.{edge_of}
use Rattle.read_grammar.specs.Derives.{area_of}
use Rattle.read_lists.specs.Cursors.{AtPart}
use Rattle.read_list_set.specs.Items.{items_in}
use Rattle.read_list_set.proofs.Runs.{left}
use Rattle.read_polygon_sides.proofs.put_edges.Given as goal

abbrev pub invariant-loop-k : goal.invariant-loop-k
invariant-loop-k l = (l.k ≤ l.count) × AtPart l.pages.edges.now l.c × (length l.out ≡ length l.initial.out) × (put (l.at + 6 * l.k) (each edge_words (map (edge_of (area_of l.pages.header.now)) (left (items_in l.pages.reader.system.now l.pages.reader.graphics.now 8 l.pages.edges.now) l.start l.count l.k))) l.out ≡ put l.at (each edge_words (map (edge_of (area_of l.pages.header.now)) (take l.count (drop l.start (items_in l.pages.reader.system.now l.pages.reader.graphics.now 8 l.pages.edges.now))))) l.initial.out)

abbrev pub decreases-loop-k : goal.decreases-loop-k
decreases-loop-k l = l.count - l.k
