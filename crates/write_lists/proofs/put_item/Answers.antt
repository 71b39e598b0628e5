-- `write_lists::put_item` meets its contract: the whole words, then what is left of the item.
use Rattle.std.proofs.Common.{◌∙◌}
use Rattle.write_lists.proofs.Words.{item_stored}
use Rattle.write_lists.proofs.put_item.Goals as goal

pub returns : goal.returns
returns c =
    let a = c.args in
    c.put_le.ensures ∙ rw (c.put_all.ensures, c.from.ensures) (item_stored a.whole a.w a.item.now c.requires.0 a.at a.out.now)
