-- `write_list_blocks::lay_table` meets its contract: zeros up to the place, then the table.
use Rattle.std.proofs.Common.{◌*◌, ◌^◌, ◌<◌, arith}
use Rattle.write_blocks.specs.Layout.{behind}
use Rattle.write_blocks.specs.Lists.{sizes}
use Rattle.write_blocks.proofs.Layouts.{end_ge, laid_block}
use Rattle.write_blocks.proofs.Lists.{length_counts, table_length}
use Rattle.write_list_blocks.specs.Parts.{counts_left}
use Rattle.write_list_blocks.proofs.lay_table.Goals as goal
use Rattle.write_list_blocks.proofs.lay_table.Goals.{Start}

-- the table ends below 2^28, since the items behind it do
below : (s : Start) → behind s.args.l.at (16 * s.args.parts.count) < 2 ^ 28
below s = let a = s.args in omega (arith, s.requires.1, end_ge (behind a.l.at (16 * a.parts.count)) (sizes a.w (counts_left a.parts)))

pub overflow_mul-size : goal.overflow_mul-size
overflow_mul-size c = omega (arith, below (goal.at.overflow_mul-size c).Start)

pub pad-start-requires : goal.pad-start-requires
pad-start-requires c = below (goal.at.pad-start-requires c).Start

pub alloc-next-requires : goal.alloc-next-requires
alloc-next-requires c = below (goal.at.alloc-next-requires c).Start

pub put_table-requires : goal.put_table-requires
put_table-requires c =
    let p = c.args.parts in
    (c.requires.0, rw c.alloc-next.ensures c.requires.1, rw (c.pad-start.ensures.start, length_counts p.count p.per p.items) (below (goal.at.put_table-requires c).Start))

pub returns : goal.returns
returns c =
    let pad = c.pad-start in
    let next = c.alloc-next in
    let a = c.args in
    let p = a.parts in
    laid_block (table_length a.w (behind a.l.at (16 * p.count)) p.count p.per p.items) pad.ensures.start pad.ensures.out
    (rw next.ensures at c.put_table.ensures) next.ensures
