-- `write_lists::lay_items` meets its contract. The invariant, `Laying`: whoever lays out what is left of the parts from here on has laid out all.
use Rattle.write_blocks.specs.Lists.{part_counts, part_count, per_part}
use Rattle.write_list_blocks.specs.Parts.{counts_left}
use Rattle.write_lists.proofs.Words.{Laying}
use Rattle.write_lists.proofs.lay_items.Given as goal

abbrev pub invariant-loop-m : goal.invariant-loop-m
invariant-loop-m l =
    (goal.iterator-loop-m).can_next l.m-iterator
    × (goal.iterator-loop-m).is_finite l.m-iterator
    × Laying l.words l.base l.whole l.w l.n (part_counts (part_count l.w l.n) (per_part l.w) l.n) l.initial.next l.initial.out l.next l.out l.from (counts_left l.m-iterator)
