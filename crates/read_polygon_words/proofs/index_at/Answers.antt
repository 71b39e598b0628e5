-- `read_polygon_words::index_at` meets its contract: an index that is read in its own two bytes is the one that is read in the run (`own_bytes`).
use mathlib.Core.Path.{◌∙◌}
use Rattle.read_polygon_words.proofs.Words.{own_bytes}
use Rattle.read_polygon_words.proofs.index_at.Goals as goal

pub returns : goal.returns
returns c = own_bytes _ _ (c.from.ensures ∙ c.u16_le.ensures)
