-- `write_lists::write_list` meets its contract: front, items and offsets, each laid out behind the one before.
use Rattle.write_blocks.proofs.Lists.{front_room, items_room, list_laid}
use Rattle.write_lists.specs.Words.{items_in}
use Rattle.write_lists.proofs.Words.{lies, length_items, items_wide}
use lib.ListN.{drop}
use Rattle.write_lists.proofs.write_list.Goals as goal

pub lay_items-offsets-requires : goal.lay_items-offsets-requires
lay_items-offsets-requires c =
    let a = c.args in
    (c.requires.0, c.requires.1, front_room a.vft a.w a.n c.requires.2 c.lay_list_front-parts.ensures)

pub lay_offsets-requires : goal.lay_offsets-requires
lay_offsets-requires c =
    let a = c.args in
    let ws = drop a.base a.words.now in
    items_room a.vft a.w a.n (items_in a.whole a.w a.n ws) c.requires.2 (items_wide a.whole a.w a.n ws (lies a.base a.words.now c.requires.0) c.requires.1) (length_items a.whole a.w a.n ws) c.lay_list_front-parts.ensures c.lay_items-offsets.ensures

pub returns : goal.returns
returns c =
    let a = c.args in
    let ws = drop a.base a.words.now in
    list_laid a.vft a.w a.n (items_in a.whole a.w a.n ws) (length_items a.whole a.w a.n ws) c.lay_list_front-parts.ensures c.lay_items-offsets.ensures c.lay_offsets.ensures
