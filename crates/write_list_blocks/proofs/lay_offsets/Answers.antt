-- `write_list_blocks::lay_offsets` meets its contract: zeros up to the place, then the offsets, if there is a part.
use Rattle.std.proofs.Common.{◌≡◌, ◌*◌, ◌^◌, ◌<◌, sym, ap, ◌∙◌, arith}
use Rattle.write_blocks.specs.Layout.{behind}
use Rattle.write_blocks.specs.Lists.{per_part, part_count}
use Rattle.write_blocks.proofs.Layouts.{laid_none, laid_block}
use Rattle.write_blocks.proofs.Lists.{offsets_below, offsets_length, blocks_some, length_counts, sum_counts_le, room_items}
use Rattle.write_list_blocks.specs.declared.Parts.{Parts}
use Rattle.write_list_blocks.proofs.lay_offsets.Goals as goal
use Rattle.write_list_blocks.proofs.lay_offsets.Goals.{After-new-parts, Else-parts-eq0}

count : (c : After-new-parts) → c.new-parts.result.count ≡ part_count c.args.w c.args.n
count c = ap (λ (p : Parts). p.count) c.new-parts.ensures

pub returns-then-parts-eq0 : goal.returns-then-parts-eq0
returns-then-parts-eq0 c =
    let a = c.args in
    let none : part_count a.w a.n ≡ 0 = sym (count (goal.at.returns-then-parts-eq0 c).After-new-parts) ∙ c.if-parts-eq0.true in
    rw none (laid_none a.l a.out.now)

below : (c : Else-parts-eq0) → behind c.args.l.at (4 * c.new-parts.result.count) < 2 ^ 28
below c = offsets_below c.new-parts.result.count c.requires (count (goal.at.Else-parts-eq0 c).After-new-parts) c.if-parts-eq0.false

pub overflow_mul-size : goal.overflow_mul-size
overflow_mul-size c = omega (arith, below (goal.at.overflow_mul-size c).Else-parts-eq0)

pub pad-start-requires : goal.pad-start-requires
pad-start-requires c = below (goal.at.pad-start-requires c).Else-parts-eq0

pub put_offsets-requires : goal.put_offsets-requires
put_offsets-requires c =
    let p = c.new-parts.result in
    let a = c.args in (
      rw c.new-parts.ensures (omega (arith, room_items c.requires, sum_counts_le (part_count a.w a.n) (per_part a.w) a.n)),
      rw (c.pad-start.ensures.start, length_counts p.count p.per p.items) (below (goal.at.put_offsets-requires c).Else-parts-eq0),
    )

pub alloc-requires : goal.alloc-requires
alloc-requires c = below (goal.at.alloc-requires c).Else-parts-eq0

pub returns : goal.returns
returns c =
    let pad = c.pad-start in
    let a = c.args in
    let k = part_count a.w a.n in
    let e = count (goal.at.returns c).After-new-parts in
    rw (blocks_some k (per_part a.w) a.n (λ z. c.if-parts-eq0.false (e ∙ z)))
    (laid_block (offsets_length k (per_part a.w) a.n) (rw e at pad.ensures.start) (rw e at pad.ensures.out) (rw c.new-parts.ensures at c.put_offsets.ensures) (rw e at c.alloc.ensures))
