-- `write_list_blocks::put_table` meets its contract. The loop's invariant: storing what is left of the table from here on gives what is promised.
use mathlib.Core.Path.{◌≡◌}
use Prim.Native.Nat.{◌+◌, ◌*◌, ◌^◌, ◌<◌}
use lib.ListN.{length}
use Rattle.fields.specs.Put.{put}
use Rattle.write_blocks.specs.Layout.{end_of}
use Rattle.write_blocks.specs.Laid.{sum_of}
use Rattle.write_blocks.specs.Lists.{sizes, table_bytes}
use Rattle.write_list_blocks.specs.Parts.{counts_left}
use Rattle.write_list_blocks.proofs.put_table.Given as goal

abbrev pub invariant-loop-m : goal.invariant-loop-m
invariant-loop-m l =
    (goal.iterator-loop-m).can_next l.m-iterator
    × (goal.iterator-loop-m).is_finite l.m-iterator
    × (sum_of (counts_left l.m-iterator) < 2 ^ 32)
    × (l.entry + 16 * length (counts_left l.m-iterator) ≡ l.at + 16 * length (counts_left l.fn.parts))
    × (end_of l.next.at (sizes l.w (counts_left l.m-iterator)) ≡ end_of l.initial.next.at (sizes l.w (counts_left l.fn.parts)))
    × (put l.entry (table_bytes l.w l.next.at (counts_left l.m-iterator)) l.out ≡ put l.at (table_bytes l.w l.initial.next.at (counts_left l.fn.parts)) l.initial.out)
