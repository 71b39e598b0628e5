-- `read_polygon_words::all_below` meets its contract. The loop's invariant: what is left is below exactly when all are.
use mathlib.Core.Path.{◌∙◌}
use Rattle.read_polygon_words.proofs.Words.{below_begin, below_more, below_not, below_end}
use Rattle.read_polygon_words.proofs.all_below.Goals as goal

pub loop-k-init : goal.loop-k-init
loop-k-init c = below_begin _ _ _

pub returns-then-limit-index_at : goal.returns-then-limit-index_at
returns-then-limit-index_at c = below_not _ _ _ _ c.loop-k-test.true c.index_at.ensures c.if-limit-index_at.true ∙ c.loop-k.invariant

pub loop-k-preserved : goal.loop-k-preserved
loop-k-preserved c = below_more _ _ _ _ c.loop-k-test.true c.index_at.ensures c.if-limit-index_at.false ∙ c.loop-k.invariant

pub returns : goal.returns
returns c = below_end _ _ _ _ c.loop-k-test.false ∙ c.loop-k.invariant
