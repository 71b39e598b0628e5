-- `read_edge_words::put_edge` meets its contract: the halves are stored one behind the other, and both stores make one.
use mathlib.Core.Path.{◌∙◌}
use Rattle.read_edge_words.proofs.Edges.{edge_put}
use Rattle.read_edge_words.proofs.put_edge.Goals as goal

pub returns : goal.returns
returns c = c.put_half-2.ensures ∙ rw (c.put_half.ensures, c.u32_le.ensures, c.u32_le-2.ensures) (edge_put _ _ _ _)
