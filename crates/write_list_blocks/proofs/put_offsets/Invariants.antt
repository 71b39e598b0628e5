-- `write_list_blocks::put_offsets` meets its contract. The loop's invariant: storing what is left of the offsets from here on gives what is promised.
use mathlib.Core.Path.{◌≡◌}
use Prim.Native.Nat.{◌+◌, ◌*◌, ◌^◌, ◌<◌}
use lib.ListN.{length}
use Rattle.fields.specs.Bytes.{les}
use Rattle.fields.specs.Put.{put}
use Rattle.write_blocks.specs.Laid.{sum_of}
use Rattle.write_blocks.specs.Lists.{firsts}
use Rattle.write_list_blocks.specs.Parts.{counts_left}
use Rattle.write_list_blocks.proofs.put_offsets.Given as goal

abbrev pub invariant-loop-m : goal.invariant-loop-m
invariant-loop-m l =
    (goal.iterator-loop-m).can_next l.m-iterator
    × (goal.iterator-loop-m).is_finite l.m-iterator
    × (l.first + sum_of (counts_left l.m-iterator) < 2 ^ 32)
    × (l.entry + 4 * length (counts_left l.m-iterator) ≡ l.at + 4 * length (counts_left l.fn.parts))
    × (put l.entry (les 4 (firsts l.first (counts_left l.m-iterator))) l.out ≡ put l.at (les 4 (firsts 0 (counts_left l.fn.parts))) l.initial.out)
