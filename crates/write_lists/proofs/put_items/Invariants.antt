-- `write_lists::put_items` meets its contract. The invariant, `Storing`: the items that are left, stored from here, make the whole.
use Rattle.std.proofs.Common.{◌≡◌, ◌+◌}
use Rattle.std.specs.Slice.Iter.{chunks_exact_rest, chunks_exact_size}
use Rattle.write_lists.proofs.Words.{Storing}
use Rattle.write_lists.proofs.put_items.Given as goal

abbrev pub invariant-loop-item : goal.invariant-loop-item
invariant-loop-item l = (chunks_exact_size l.item-iterator ≡ l.whole + 1)
    × Storing l.words l.from l.m l.whole l.w l.at l.initial.out l.out (chunks_exact_rest l.item-iterator) l.place
