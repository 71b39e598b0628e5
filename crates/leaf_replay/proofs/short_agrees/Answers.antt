-- `leaf_replay::short_agrees` meets its contract: the test says that the short of `leaf_short` on the first three words in is the first word out.
use borrow.Author.Tests.{eqb-true}
use Rattle.leaf_replay.proofs.short_agrees.Goals as goal

pub returns : goal.returns
returns c = λ h. cc (eqb-true c.leaf_short.result c.word-4.result h)
