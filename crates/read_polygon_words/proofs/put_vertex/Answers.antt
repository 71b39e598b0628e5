-- `put_vertex` meets its contract: a vertex is the position at its front.
use mathlib.Core.Path.{◌∙◌}
use Rattle.read_grammar.specs.Polygons.{vertex_of}
use Rattle.read_polygon_words.proofs.put_vertex.Goals as goal

pub returns : goal.returns
unfolding vertex_of
returns c = c.put_position.ensures ∙ rw c.shorts_at.ensures
