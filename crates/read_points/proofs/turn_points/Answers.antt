-- `turn_points` meets its contract. The loop's invariant: what is left to turn, turned from here on, gives what is promised.
use native.Mathlib.Omega.{arith}
use mathlib.Core.Path.{refl, sym, ◌∙◌}
use Rattle.read_points.proofs.Turned.{turned_start, turned_more, turned_end}
use Rattle.read_points.proofs.turn_points.Goals as goal

pub loop-i-init : goal.loop-i-init
loop-i-init c = turned_start _ _ _ 0 _ _ refl

pub loop-i-preserved : goal.loop-i-preserved
loop-i-preserved c = turned_more _ _ c.args.n c.loop-i.i c.args.at _ c.loop-i-test.true c.turn_point.ensures ∙ c.loop-i.invariant

pub returns : goal.returns
returns c = sym (turned_end _ _ c.args.n c.loop-i.i _ _ (omega arith)) ∙ c.loop-i.invariant
