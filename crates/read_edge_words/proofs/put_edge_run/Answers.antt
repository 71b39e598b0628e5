-- `read_edge_words::put_edge_run` meets its contract. The loop's invariant: storing what is left from here gives what is promised.
use mathlib.Core.Path.{sym, ◌∙◌}
use borrow.Author.Rules.{rules}
use Rattle.strip.specs.Cell.{edge_words}
use Rattle.read_records.proofs.Items.{put_begin, put_lent, put_end}
use Rattle.read_edge_words.proofs.Edges.{edge_six}
use Rattle.read_edge_words.proofs.put_edge_run.Goals as goal

pub loop-k-init : goal.loop-k-init
loop-k-init c = put_begin edge_words 6 edge_six _ _ _ _ _ _

pub loop-k-preserved : goal.loop-k-preserved
loop-k-preserved c = put_lent edge_words 6 edge_six _ 8 _ _ _ _ _ c.loop-k-test.true c.put_edge.ensures ∙ c.loop-k.invariant

pub returns : goal.returns
returns c = sym (put_end edge_words 6 edge_six _ _ _ _ _ c.loop-k.k _ (search rules)) ∙ c.loop-k.invariant
