-- `write_lists::lay_vertices` meets its contract: the words behind the heads are the vertices' items.
use Rattle.write_lists.proofs.Tables.{relaid, vertex_words}
use Rattle.fields.specs.Sizes.{list_vft_vertices}
use Rattle.write_lists.proofs.lay_vertices.Goals as goal

pub returns : goal.returns
returns c =
    let a = c.args in
    relaid list_vft_vertices 6 (vertex_words a.work.now (λ k. (c.shared_slice_known-1.given k).fits) a.n a.buckets c.requires.0) c.write_list.ensures
