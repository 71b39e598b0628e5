-- `write_lists::put_items` meets its contract: a turn stores one item, from its own words.
use Rattle.std.proofs.Common.{◌≡◌, ◌+◌, ◌-◌, ◌*◌, ◌≤◌, length, ◌∙◌, arith}
use Rattle.write_lists.proofs.Words.{storing, storing_room, storing_turn, stored}
use Rattle.write_lists.proofs.put_items.Goals as goal
use Rattle.write_lists.proofs.put_items.Goals.{In-Some}

own : (c : In-Some) → length c.in-Some.item.now ≡ c.args.whole + 1
own c = c.in-Some.ensures.steps.1.1 ∙ c.loop-item.invariant.0

room : (c : In-Some) → c.loop-item.place + c.args.w ≤ c.args.at + c.args.w * c.args.m
room c = storing_room _ _ _ _ _ _ _ _ _ _ c.loop-item.invariant.1 _ _ c.in-Some.ensures.steps.1.0 (own c)

pub loop-item-init : goal.loop-item-init
loop-item-init c =
    let a = c.args in
    let s = c.chunks_exact-item-items.ensures in
    let e : a.from + (a.whole + 1) * a.m - a.from ≡ (a.whole + 1) * a.m = omega arith in
    rw c.into_iter-item-iterator.ensures.into_iter_gives (s.size, storing _ _ _ _ _ _ _ c.requires.0 _ (rw e at s.rest))

pub put_item-requires : goal.put_item-requires
put_item-requires c =
    let s = (goal.at.put_item-requires c).In-Some in
    (omega (arith, own s), c.requires.1, omega (arith, room s, c.requires.2))

pub overflow_add-place : goal.overflow_add-place
overflow_add-place c = omega (arith, room (goal.at.overflow_add-place c).In-Some, c.requires.2)

pub loop-item-preserved : goal.loop-item-preserved
loop-item-preserved c =
    let steps = c.in-Some.ensures.steps in
    (steps.0 ∙ c.loop-item.invariant.0, storing_turn _ _ _ _ _ _ _ _ _ _ c.loop-item.invariant.1 _ _ steps.1.0 (own (goal.at.loop-item-preserved c).In-Some) c.requires.1 _ c.put_item.ensures)

pub returns : goal.returns
returns c = stored _ _ _ _ _ _ _ _ _ _ c.loop-item.invariant.1 (omega (arith, c.in-None.ensures.steps.1.0, c.loop-item.invariant.0))
