-- `replay::tallied` meets its contract: by the definition of what a record makes of a tally.
use Rattle.replay.specs.Tallies.{counting}
use Rattle.replay.proofs.tallied.Goals as goal

pub returns-then-agreed-clause-tally : goal.returns-then-agreed-clause-tally
unfolding counting
returns-then-agreed-clause-tally c = rw c.if-agreed.true

pub returns-clause-tally : goal.returns-clause-tally
unfolding counting
returns-clause-tally c = rw (c.if-agreed.false, c.min-first.ensures)
