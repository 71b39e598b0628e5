-- `reach_walk::start_from` meets its contract: more steps after the polygon's own.
use borrow.Author.Rules.{rules}
use Rattle.reach_walk.proofs.Work.{left_more, known_still}
use Rattle.reach_walk.proofs.start_from.Goals as goal

pub drain-requires : goal.drain-requires
drain-requires c = known_still _ _ (search rules) c.requires

pub returns : goal.returns
returns c = left_more _ _ c.leave.ensures c.drain.ensures
