-- `read_polygon_sides::put_vertices` meets its contract. The loop's invariant: the indices left are below the count, and storing what is left from here gives what is promised.
use Prim.Native.Nat.{◌+◌, ◌-◌, ◌*◌, ◌≤◌}
use mathlib.Core.Path.{◌≡◌}
use mathlib.Core.Bool.{true}
use mathlib.Core.List.{map}
use lib.ListN.{length, take, drop}
use Rattle.fields.specs.Put.{put}
use Rattle.strip.specs.Cell.{each, vec_words}
use Rattle.read_lists.specs.Cursors.{AtPart}
use Rattle.read_lists.specs.Lists.{total}
use Rattle.read_records.specs.Back.{back_by}
use Rattle.read_polygon_words.specs.Words.{all_below}
use Rattle.read_list_set.specs.Items.{items_in}
use Rattle.read_polygon_sides.specs.Corner.{corner}
use Rattle.read_list_set.proofs.Runs.{left}
use Rattle.read_polygon_sides.proofs.put_vertices.Given as goal

abbrev pub invariant-loop-k : goal.invariant-loop-k
invariant-loop-k l = (l.k ≤ l.count) × AtPart l.pages.vertices.now l.d × AtPart l.pages.indices.now l.c × (length l.out ≡ length l.initial.out) × (all_below (total l.pages.vertices.now) (left (items_in l.pages.reader.system.now l.pages.reader.graphics.now 2 l.pages.indices.now) l.start l.count l.k) ≡ true) × (put (l.at + 3 * l.k) (each vec_words (map (corner (back_by l.pages.frame.bb_min l.pages.frame.bb_size) (items_in l.pages.reader.system.now l.pages.reader.graphics.now 6 l.pages.vertices.now)) (left (items_in l.pages.reader.system.now l.pages.reader.graphics.now 2 l.pages.indices.now) l.start l.count l.k))) l.out ≡ put l.at (each vec_words (map (corner (back_by l.pages.frame.bb_min l.pages.frame.bb_size) (items_in l.pages.reader.system.now l.pages.reader.graphics.now 6 l.pages.vertices.now)) (take l.count (drop l.start (items_in l.pages.reader.system.now l.pages.reader.graphics.now 2 l.pages.indices.now))))) l.initial.out)

abbrev pub decreases-loop-k : goal.decreases-loop-k
decreases-loop-k l = l.count - l.k
