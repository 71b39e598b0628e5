-- `write_leaf_items::put_points` meets its contract: storing the points that are left from here gives what is promised. Assumes nothing.
use Rattle.std.proofs.Common.{◌≡◌, ◌+◌, ◌*◌, ◌-◌, length}
use Rattle.fields.specs.Bytes.{cat}
use Rattle.fields.specs.Put.{put}
use Rattle.strip.specs.Rows.{points_at}
use Rattle.write_pages.specs.Sectors.{point_items}
use Rattle.write_leaf_counts.specs.Work.{picked_from}
use Rattle.write_leaf_items.proofs.put_points.Given as goal

abbrev pub invariant-loop-i : goal.invariant-loop-i
invariant-loop-i l =
    (l.p + 8 * length (picked_from l.leaf_numbers l.k l.i (points_at l.strip (l.points.at + 4 * l.i) (length l.leaf_numbers - l.i))) ≡ l.at + 8 * length (picked_from l.leaf_numbers l.k 0 (points_at l.strip l.points.at (length l.leaf_numbers))))
    × (put l.p (cat (point_items l.points.frame.bb_min l.points.frame.bb_size (picked_from l.leaf_numbers l.k l.i (points_at l.strip (l.points.at + 4 * l.i) (length l.leaf_numbers - l.i))))) l.out ≡ put l.at (cat (point_items l.points.frame.bb_min l.points.frame.bb_size (picked_from l.leaf_numbers l.k 0 (points_at l.strip l.points.at (length l.leaf_numbers))))) l.initial.out)
