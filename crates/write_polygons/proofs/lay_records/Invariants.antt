-- `write_polygons::lay_records` meets its contract. The invariant: the polygons that are left stand from the cursor on, and whoever lays out the
-- parts that are left from here on has laid out all.
use Rattle.write_blocks.specs.Laid.{sum_of}
use Rattle.write_blocks.specs.Lists.{part_counts, part_count, per_part}
use Rattle.write_blocks.proofs.Parts.{Parting}
use Rattle.write_list_blocks.specs.Parts.{counts_left}
use Rattle.write_polygons.specs.Records.{start, records_at, Standing}
use Rattle.write_polygons.proofs.lay_records.Given as goal

abbrev pub invariant-loop-m : goal.invariant-loop-m
invariant-loop-m l =
    (goal.iterator-loop-m).can_next l.m-iterator
    × (goal.iterator-loop-m).is_finite l.m-iterator
    × Standing l.strip l.sides l.next (sum_of (counts_left l.m-iterator))
    × Parting 48 (part_counts (part_count 48 l.n) (per_part 48) l.n) (records_at l.own l.strip start l.n) l.initial.layout l.initial.out l.layout l.out (counts_left l.m-iterator) (records_at l.own l.strip l.next (sum_of (counts_left l.m-iterator)))
