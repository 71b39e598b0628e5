-- `write_lists::lay_items` meets its contract: a turn lays out one part.
use Rattle.std.proofs.Common.{◌+◌, ◌*◌, ◌≤◌, ◌<◌, ◌^◌, length, ap, sym}
use borrow.Author.Rules.{rules}
use Rattle.write_blocks.specs.Layout.{behind}
use Rattle.write_blocks.specs.Lists.{part_counts, part_count, per_part}
use Rattle.write_blocks.proofs.Lists.{sum_parts}
use Rattle.write_blocks.proofs.Parts.{parted}
use Rattle.write_lists.proofs.Words.{laying, laying_room, laying_turn, length_items}
use Rattle.write_lists.proofs.lay_items.Goals as goal
use Rattle.write_lists.proofs.lay_items.Goals.{In-Some}

-- the part of a turn stands in the words, and ends below 2^28
room : (c : In-Some) → (c.loop-m.from + (c.args.whole + 1) * c.in-Some.m ≤ length c.args.words.now) × (behind c.loop-m.next.at (c.args.w * c.in-Some.m) < 2 ^ 28)
room c = laying_room _ _ _ _ _ _ _ _ c.requires.0 _ _ _ _ c.loop-m.invariant.2 _ _ c.in-Some.ensures.steps c.requires.2.below

pub loop-m-init : goal.loop-m-init
loop-m-init c =
    let a = c.args in
    rw (c.into_iter-m-iterator.ensures.into_iter_gives, c.new-m-items.ensures)
    (tt, tt, laying _ _ _ _ _ _ _ _ c.requires.0 c.requires.1 (sum_parts a.w a.n c.requires.2.some c.requires.2.page))

pub lay_part-next-requires : goal.lay_part-next-requires
lay_part-next-requires c = let q = room (goal.at.lay_part-next-requires c).In-Some in (q.0, c.requires.1, q.1)

pub loop-m-preserved : goal.loop-m-preserved
loop-m-preserved c = (tt, tt, laying_turn _ _ _ _ _ _ _ _ c.requires.0 _ _ _ _ c.loop-m.invariant.2 _ _ c.in-Some.ensures.steps _ _ (search rules) c.lay_part-next.ensures)

pub returns : goal.returns
returns c =
    let a = c.args in
    let k = part_count a.w a.n in
    parted _ _ _ _ _ _ _ _ _ c.loop-m.invariant.2.parts k (per_part a.w) (ap (part_counts k (per_part a.w)) (sym (length_items a.whole a.w a.n _))) c.in-None.ensures.steps.0
