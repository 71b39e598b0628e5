-- `pick_contains::vertex_spot` meets its contract: x is the short of the word at the vertex's place.
use Rattle.pick_contains.proofs.vertex_spot.Goals as goal

pub returns : goal.returns
returns c = rw c.short_at.ensures
