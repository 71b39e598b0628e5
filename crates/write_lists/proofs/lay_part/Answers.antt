-- `write_lists::lay_part` meets its contract: zeros up to the place, then the items.
use Rattle.write_blocks.proofs.Layouts.{laid_block}
use Rattle.write_lists.proofs.Words.{part_long}
use Rattle.write_lists.proofs.lay_part.Goals as goal

pub returns : goal.returns
returns c =
    let a = c.args in
    laid_block (part_long a.whole a.w a.m a.from a.words.now c.requires.0 c.requires.1) c.pad-start.ensures.start c.pad-start.ensures.out c.put_items.ensures c.alloc.ensures
