-- `reach::walk` meets its contract: what the walk knows of the strip, and the walk from the first marks on.
use borrow.Author.Rules.{rules}
use native.Mathlib.Omega.{arith}
use Rattle.reach_walk.proofs.Work.{known_still}
use Rattle.reach.proofs.walk.Goals as goal

pub note_places-stride-requires : goal.note_places-stride-requires
note_places-stride-requires c = (omega (arith, c.requires.0.place, c.requires.0.inside), c.requires.1)

pub chain_portals-requires : goal.chain_portals-requires
chain_portals-requires c = c.requires.0.inside

pub first_marks-requires : goal.first_marks-requires
first_marks-requires c = c.requires.0.some

pub bounds-request-2 : goal.bounds-request-2
bounds-request-2 c = omega (arith, c.requires.0.head)

pub settle-requires : goal.settle-requires
settle-requires c = known_still _ _ (search rules) (record { table = c.note_places-stride.ensures; portals = c.before.before.requires.0.place; inside = c.before.before.requires.0.inside })

pub returns : goal.returns
returns c = record { stride = c.note_places-stride.result; settled = rw c.first_marks.ensures at c.settle.ensures }
