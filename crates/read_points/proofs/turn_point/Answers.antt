-- `turn_point` meets its contract: the three words that it stores are the position, read and stored at the places that the definition names (`turned_by_places`).
use native.Mathlib.Omega.{arith}
use mathlib.Core.Path.{◌∙◌}
use Rattle.read_points.proofs.Turned.{turned_by_places}
use Rattle.read_points.proofs.turn_point.Goals as goal

pub returns : goal.returns
returns c = c.put_position.ensures ∙ turned_by_places _ _ _ _ (omega arith) (omega arith) (omega arith) (omega arith)
