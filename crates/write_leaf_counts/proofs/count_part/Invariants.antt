-- `write_leaf_counts::count_part` meets its contract: what is counted and what is left make the whole.
use mathlib.Core.Path.{◌≡◌}
use Prim.Native.Nat.{◌+◌, ◌-◌, ◌≤◌}
use lib.ListN.{length}
use Rattle.write_leaf_counts.specs.Work.{count_in}
use Rattle.write_leaf_counts.proofs.count_part.Given as goal

abbrev pub invariant-loop-leaf : goal.invariant-loop-leaf
invariant-loop-leaf l = (l.n ≤ l.leaf-index) × (l.n + count_in l.part l.k l.leaf-index (length l.part - l.leaf-index) ≡ count_in l.part l.k 0 (length l.part))
