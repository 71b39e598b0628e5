-- `write_list_blocks::parts_end` meets its contract. The loop's invariant: the layout behind what is left of the parts is the one behind all.
use mathlib.Core.Path.{◌≡◌}
use Rattle.write_blocks.specs.Laid.{reached}
use Rattle.write_blocks.specs.Lists.{sizes}
use Rattle.write_list_blocks.specs.Parts.{counts_left}
use Rattle.write_list_blocks.proofs.parts_end.Given as goal

abbrev pub invariant-loop-m : goal.invariant-loop-m
invariant-loop-m l =
    (goal.iterator-loop-m).can_next l.m-iterator
    × (goal.iterator-loop-m).is_finite l.m-iterator
    × (reached l.next (sizes l.w (counts_left l.m-iterator)) ≡ reached l.initial.next (sizes l.w (counts_left l.fn.parts)))
