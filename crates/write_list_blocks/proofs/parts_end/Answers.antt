-- `write_list_blocks::parts_end` meets its contract: the part that a turn lays out ends below 2^28, since all of them do.
use Rattle.std.proofs.Common.{◌*◌, ◌^◌, ◌<◌, arith}
use Rattle.write_blocks.specs.Layout.{behind}
use Rattle.write_blocks.specs.Lists.{sizes}
use Rattle.write_blocks.proofs.Layouts.{same_ends}
use Rattle.write_blocks.proofs.Lists.{room_turn}
use Rattle.write_list_blocks.specs.Parts.{counts_left}
use Rattle.write_list_blocks.proofs.parts_end.Goals as goal
use Rattle.write_list_blocks.proofs.parts_end.Goals.{In-Some}

fits : (c : In-Some) → behind c.loop-m.next.at (c.args.w * c.in-Some.m) < 2 ^ 28
fits c =
    let a = c.args in
    let l = c.loop-m in
    let left = counts_left l.m-iterator in
    omega (arith, c.requires, same_ends l.next a.l (sizes a.w left) (sizes a.w (counts_left a.parts)) l.invariant.2, room_turn left _ _ c.in-Some.ensures.steps a.w l.next.at)

pub overflow_mul-w : goal.overflow_mul-w
overflow_mul-w c = omega (arith, fits c)

pub alloc-next-requires : goal.alloc-next-requires
alloc-next-requires c = fits c
