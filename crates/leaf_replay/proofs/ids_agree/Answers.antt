-- `leaf_replay::ids_agree` meets its contract. The loop's invariant: the words passed agree.
use mathlib.Core.Bool.{false≢true}
use native.Mathlib.Omega.{arith}
use mathlib.Core.Path.{◌∙◌}
use borrow.Author.Count.{below_none, below_more}
use Rattle.leaf_replay.proofs.ids_agree.Goals as goal

pub loop-k-init : goal.loop-k-init
loop-k-init c = (omega arith, below_none _)

pub returns-then-found-expected : goal.returns-then-found-expected
returns-then-found-expected c = λ h. absurd (false≢true h)

pub loop-k-preserved : goal.loop-k-preserved
loop-k-preserved c = (omega arith, below_more _ _ c.loop-k.invariant.1 (c.if-found-expected.false ∙ c.word-expected.ensures))

pub returns : goal.returns
returns c = λ h j l. c.loop-k.invariant.1 j (omega arith)
