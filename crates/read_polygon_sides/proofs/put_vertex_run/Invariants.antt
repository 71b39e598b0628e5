-- `read_polygon_sides::put_vertex_run` meets its contract. The loop's invariant: storing what is left from here gives what is promised.
use Prim.Native.Nat.{◌+◌, ◌-◌, ◌*◌, ◌≤◌}
use mathlib.Core.Path.{◌≡◌}
use mathlib.Core.List.{map}
use lib.ListN.{length, drop}
use Rattle.fields.specs.Bytes.{cut}
use Rattle.fields.specs.Put.{put}
use Rattle.strip.specs.Cell.{each, vec_words}
use Rattle.read_lists.specs.Cursors.{AtPart}
use Rattle.read_records.specs.Back.{back_by}
use Rattle.read_polygon_sides.specs.Corner.{corner}
use Rattle.read_list_set.specs.Items.{items_in}
use Rattle.read_polygon_sides.proofs.put_vertex_run.Given as goal

abbrev pub invariant-loop-k : goal.invariant-loop-k
invariant-loop-k l = (l.k ≤ l.n) × AtPart l.pages.vertices.now l.d × (length l.out ≡ length l.initial.out) × (put (l.at + 3 * l.k) (each vec_words (map (corner (back_by l.pages.frame.bb_min l.pages.frame.bb_size) (items_in l.pages.reader.system.now l.pages.reader.graphics.now 6 l.pages.vertices.now)) (cut 2 (l.n - l.k) (drop (2 * l.k) l.run)))) l.out ≡ put l.at (each vec_words (map (corner (back_by l.pages.frame.bb_min l.pages.frame.bb_size) (items_in l.pages.reader.system.now l.pages.reader.graphics.now 6 l.pages.vertices.now)) (cut 2 l.n l.run))) l.initial.out)

abbrev pub decreases-loop-k : goal.decreases-loop-k
decreases-loop-k l = l.n - l.k
