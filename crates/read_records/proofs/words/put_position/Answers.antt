-- `put_position` meets its contract. The vector that is stored is the position turned back.
use mathlib.Core.Path.{◌∙◌}
use Rattle.read_records.specs.Back.{back_by}
use Rattle.read_records.proofs.words.put_position.Goals as goal

pub returns : goal.returns
unfolding back_by
returns c = c.put_vec.ensures ∙ rw c.unquantise.ensures
