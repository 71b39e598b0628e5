-- `put_points` meets its contract. The loop's invariant: what is left to write, stored from here on, gives what is promised.
use mathlib.Core.Path.{sym, ◌∙◌}
use borrow.Author.Rules.{rules}
use Rattle.strip.specs.Cell.{point_words}
use Rattle.strip.proofs.Plain.{point_length}
use Rattle.read_records.proofs.Items.{put_begin, put_lent, put_end}
use Rattle.read_points.specs.Write.{points_words}
use Rattle.read_points.proofs.put_points.Goals as goal

pub loop-i-init : goal.loop-i-init
unfolding points_words
loop-i-init c = put_begin point_words 4 point_length _ _ _ _ _ _

pub loop-i-preserved : goal.loop-i-preserved
unfolding points_words
loop-i-preserved c = put_lent point_words 4 point_length _ 8 _ _ _ _ _ c.loop-i-test.true c.put_point.ensures ∙ c.loop-i.invariant

pub returns : goal.returns
unfolding points_words
returns c = sym (put_end point_words 4 point_length _ 8 c.args.n _ _ c.loop-i.i _ (search rules)) ∙ c.loop-i.invariant
