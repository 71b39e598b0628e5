-- `write_list_blocks::put_table` meets its contract: a turn stores a part's entry.
use Rattle.std.proofs.Common.{◌*◌, ◌^◌, ◌<◌, sym, ◌∙◌, arith}
use Rattle.fields.proofs.Puts.{put_nil}
use Rattle.write_blocks.specs.Layout.{behind}
use Rattle.write_blocks.specs.Lists.{table_bytes}
use Rattle.write_blocks.proofs.Lists.{room_turn, sum_turn, length_turn, end_turn, table_turn}
use Rattle.write_list_blocks.specs.Parts.{counts_left}
use Rattle.write_list_blocks.proofs.put_table.Goals as goal
use Rattle.write_list_blocks.proofs.put_table.Goals.{In-Some}

-- the part that a turn lays out ends below 2^28, since all of them do
fits : (c : In-Some) → behind c.loop-m.next.at (c.args.w * c.in-Some.m) < 2 ^ 28
fits c =
    let l = c.loop-m in
    omega (arith, c.requires.1, l.invariant.4, room_turn (counts_left l.m-iterator) _ _ c.in-Some.ensures.steps c.args.w l.next.at)

pub overflow_mul-w : goal.overflow_mul-w
overflow_mul-w c = omega (arith, fits (goal.at.overflow_mul-w c).In-Some)

pub start-requires : goal.start-requires
start-requires c = fits (goal.at.start-requires c).In-Some

pub put_part-requires : goal.put_part-requires
put_part-requires c =
    let l = c.loop-m in
    omega (arith, fits (goal.at.put_part-requires c).In-Some, c.start.ensures, l.invariant.2, sum_turn (counts_left l.m-iterator) _ _ c.in-Some.ensures.steps)

pub overflow_mul-w-in-loop-m : goal.overflow_mul-w-in-loop-m
overflow_mul-w-in-loop-m c = omega (arith, fits (goal.at.overflow_mul-w-in-loop-m c).In-Some)

pub alloc-next-requires : goal.alloc-next-requires
alloc-next-requires c = fits (goal.at.alloc-next-requires c).In-Some

pub loop-m-preserved : goal.loop-m-preserved
loop-m-preserved c =
    let w = c.args.w in
    let l = c.loop-m in
    let ms = counts_left l.m-iterator in
    let rest = counts_left c.next.new.self in
    let m = c.in-Some.m in
    let e = c.in-Some.ensures.steps in (
      tt,
      tt,
      omega (arith, l.invariant.2, sum_turn ms rest m e),
      omega (arith, l.invariant.3, length_turn ms rest m e),
      rw c.alloc-next.ensures (sym (end_turn ms rest m e w l.next.at) ∙ l.invariant.4),
      rw (c.alloc-next.ensures, c.put_part.ensures, c.start.ensures) (table_turn ms rest m e w l.entry l.next.at l.out ∙ l.invariant.5),
    )

pub returns : goal.returns
unfolding table_bytes
returns c = rw (c.in-None.ensures.steps.0, table_bytes, put_nil) at c.loop-m.invariant.5
