-- `write_lists::lay_edges` meets its contract: the words that were made are the edges' items.
use Rattle.areas.specs.Tables.{area_ids}
use Rattle.write_edges.specs.Made.{corners_at}
use Rattle.write_lists.proofs.Tables.{relaid, edge_words_lem}
use Rattle.fields.specs.Sizes.{list_vft_edges}
use Rattle.write_lists.proofs.lay_edges.Goals as goal

pub returns : goal.returns
returns c =
    let a = c.args in
    let made = c.put_edges.ensures in
    record {
      laid = relaid list_vft_edges 8 (edge_words_lem (area_ids a.areas) (corners_at a.strip.now a.n) a.work.now _ a.corners a.base c.requires.1 c.requires.2 made) c.write_list.ensures;
      made = made;
    }
