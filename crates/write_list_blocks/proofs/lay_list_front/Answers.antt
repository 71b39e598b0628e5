-- `write_list_blocks::lay_list_front` meets its contract: header and part table, at the positions that the number of items gives.
use Rattle.std.proofs.Common.{refl, arith}
use Rattle.write_blocks.specs.Layout.{address}
use Rattle.write_blocks.specs.Lists.{per_part, part_count}
use Rattle.write_blocks.proofs.Lists.{room_items, room_offsets, list_ends, items_at, sizes_optional, address_optional, header_end, front_laid, sum_counts_le}
use Rattle.write_list_blocks.proofs.lay_list_front.Goals as goal

pub address_of-offsets-requires : goal.address_of-offsets-requires
address_of-offsets-requires c =
    let e = c.list_places-p.ensures in
    rw (items_at c.args.l c.args.w c.args.n e.items, e.parts, sizes_optional) (room_offsets c.requires).below

pub lay_list_header-next-requires : goal.lay_list_header-next-requires
lay_list_header-next-requires c =
    let e = c.list_places-p.ensures in
    rw e.parts (omega (arith, e.table, room_items c.requires, list_ends c.args.l.at c.args.w c.args.n, c.requires.below, c.requires.table))

pub lay_table-requires : goal.lay_table-requires
lay_table-requires c =
    let p = c.list_places-p in
    let a = c.args in
    let k = part_count a.w a.n in
    rw (header_end a.vft a.n (address p.result.table) c.address_of-offsets.result p.result.parts.count c.lay_list_header-next.ensures, p.ensures.parts)
    (omega (arith, room_items c.requires, sum_counts_le k (per_part a.w) a.n), omega (arith, list_ends a.l.at a.w a.n, c.requires.below))

pub returns : goal.returns
returns c =
    let p = c.list_places-p in
    let offsets = c.address_of-offsets in
    let a = c.args in
    let e = p.ensures in
    front_laid a.vft a.w a.n p.result.table offsets.result (part_count a.w a.n) refl e.table
    (rw (items_at a.l a.w a.n e.items, e.parts, address_optional) at offsets.ensures) (rw e.parts at c.lay_list_header-next.ensures) (rw e.parts at c.lay_table.ensures)
