-- `read_replay::words_agree` meets its contract. The loop's invariant: the words passed agree.
use native.Mathlib.Omega.{arith}
use mathlib.Core.Path.{◌∙◌}
use borrow.Author.Count.{below_more}
use Rattle.read_replay.proofs.words_agree.Goals as goal

pub loop-k-preserved : goal.loop-k-preserved
loop-k-preserved c = below_more _ _ c.loop-k.invariant (c.if-strip-k.false ∙ c.told_word.ensures)

pub returns : goal.returns
returns c = λ h j l. c.loop-k.invariant j (omega arith)
