-- `write_lists::lay_indices` meets its contract: the words from the place on are the indices' items.
use Rattle.write_lists.proofs.Tables.{relaid, index_words}
use Rattle.fields.specs.Sizes.{list_vft_indices}
use Rattle.write_lists.proofs.lay_indices.Goals as goal

pub returns : goal.returns
returns c =
    let a = c.args in
    relaid list_vft_indices 2 (index_words a.work.now a.n a.from c.requires.0) c.write_list.ensures
