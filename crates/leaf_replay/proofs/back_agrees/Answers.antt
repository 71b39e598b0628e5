-- `leaf_replay::back_agrees` meets its contract: the test says that the float of `leaf_back` on the first three words in has the bits of the first word out.
use borrow.Author.Tests.{eqb-true}
use Rattle.leaf_replay.proofs.back_agrees.Goals as goal

pub returns : goal.returns
returns c = λ h. cc (eqb-true c.leaf_back.result c.word-4.result h)
