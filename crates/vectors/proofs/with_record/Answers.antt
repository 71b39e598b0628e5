-- `vectors::with_record` meets its contract: a record that is asked for is counted with the verdict on it, another one is left out.
use Rattle.replay.specs.Tallies.{left_out}
use Rattle.replay.proofs.Tallies.{step}
use Rattle.vectors.proofs.with_record.Goals as goal

pub returns-then-asked-clause-step : goal.returns-then-asked-clause-step
returns-then-asked-clause-step c = step _ _ _ _ _ _ (c.asked.ensures.within c.if-asked.true) c.agrees-agreed.ensures c.tallied.ensures.tally

pub returns-clause-step : goal.returns-clause-step
returns-clause-step c = left_out (c.asked.ensures.outside c.if-asked.false)
