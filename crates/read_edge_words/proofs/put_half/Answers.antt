-- `read_edge_words::put_half` meets its contract: the three words stored are those of the decoded half, its area looked up (`half_words_lem`).
use mathlib.Core.Path.{◌∙◌}
use Rattle.read_grammar.specs.Derives.{area_of}
use Rattle.read_edge_words.proofs.Edges.{half_words_lem}
use Rattle.read_edge_words.proofs.put_half.Goals as goal

pub returns : goal.returns
returns c = c.put_words.ensures ∙ rw (half_words_lem (area_of c.args.header.now) c.args.raw c.decode_end-e.ensures c.area_of-area.ensures)
