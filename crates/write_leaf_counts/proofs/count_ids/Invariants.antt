-- `write_leaf_counts::count_ids` meets its contract. What is counted and what is left make the whole. Assumes nothing.
use mathlib.Core.Path.{◌≡◌}
use Prim.Native.Nat.{◌+◌, ◌-◌, ◌*◌, ◌/◌, ◌≤◌}
use lib.ListN.{length}
use Rattle.write_pages.specs.Sectors.{leaf_ids}
use Rattle.write_leaf_counts.specs.Work.{boxes_at, boxes_in}
use Rattle.write_leaf_counts.proofs.count_ids.Given as goal

abbrev pub invariant-loop-i : goal.invariant-loop-i
invariant-loop-i l =
    (l.n ≤ l.i)
    × (l.n + length (leaf_ids (l.q) l.i (boxes_at l.boxes (3 * l.i) (length l.boxes / 3 - l.i))) ≡ length (leaf_ids (l.q) 0 (boxes_in l.boxes)))
