-- `write_leaf_items::put_ids` meets its contract: storing the ids that are left from here gives what is promised. Assumes nothing.
use Rattle.std.proofs.Common.{◌≡◌, ◌+◌, ◌*◌, ◌/◌, ◌-◌, length}
use Rattle.fields.specs.Bytes.{les}
use Rattle.fields.specs.Put.{put}
use Rattle.write_pages.specs.Sectors.{leaf_ids}
use Rattle.write_leaf_counts.specs.Work.{boxes_at, boxes_in}
use Rattle.write_leaf_items.proofs.put_ids.Given as goal

abbrev pub invariant-loop-i : goal.invariant-loop-i
invariant-loop-i l =
    (l.p + 2 * length (leaf_ids l.q l.i (boxes_at l.boxes (3 * l.i) (length l.boxes / 3 - l.i))) ≡ l.at + 2 * length (leaf_ids l.q 0 (boxes_in l.boxes)))
    × (put l.p (les 2 (leaf_ids l.q l.i (boxes_at l.boxes (3 * l.i) (length l.boxes / 3 - l.i)))) l.out ≡ put l.at (les 2 (leaf_ids l.q 0 (boxes_in l.boxes))) l.initial.out)
