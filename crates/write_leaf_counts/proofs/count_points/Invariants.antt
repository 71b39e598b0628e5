-- `write_leaf_counts::count_points` meets its contract: what is counted and what is left make the whole.
use mathlib.Core.Path.{◌≡◌}
use Prim.Native.Nat.{◌+◌}
use lib.ListN.{length}
use Rattle.std.specs.Slice.Iter.{chunks_rest, chunks_size}
use Rattle.write_leaf_counts.specs.Work.{count_in}
use Rattle.write_leaf_counts.proofs.count_points.Given as goal

abbrev pub invariant-loop-part : goal.invariant-loop-part
invariant-loop-part l = record {
  next : (goal.iterator-loop-part).can_next l.part-iterator;
  finite : (goal.iterator-loop-part).is_finite l.part-iterator;
  size : chunks_size l.part-iterator ≡ 65536;
  counted : l.n + count_in (chunks_rest l.part-iterator) l.k 0 (length (chunks_rest l.part-iterator)) ≡ count_in l.leaf_numbers l.k 0 (length l.leaf_numbers);
}
