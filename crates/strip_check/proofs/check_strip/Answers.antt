-- `strip_check::check_strip` meets its contract. The invariant, `Passed`: the answer is that of the counts so far and of the records from `at` on.
use mathlib.Core.Path.{sym, ap, ◌∙◌}
use Rattle.std.proofs.Common.{Ok}
use native.Mathlib.Omega.{arith}
use Rattle.strip.proofs.Judged.{passed_none, passed_cell, passed_polygon, passed_portal, passed_point, passed_end, passed_bad, moves}
use Rattle.strip_check.proofs.check_strip.Goals as goal

pub loop-at-init : goal.loop-at-init
loop-at-init c = passed_none _

pub loop-at-preserved-in-Ok-Cell : goal.loop-at-preserved-in-Ok-Cell
loop-at-preserved-in-Ok-Cell c = passed_cell _ _ _ _ _ _ c.loop-at.invariant (sym c.record_at.ensures ∙ c.in-Ok-Cell.is ∙ ap Ok c.in-Ok-Cell.field-0-is)

pub loop-at-smaller-in-Ok-Cell : goal.loop-at-smaller-in-Ok-Cell
loop-at-smaller-in-Ok-Cell c = let h = loop-at-preserved-in-Ok-Cell c in omega arith

pub loop-at-preserved-in-Ok-Polygon : goal.loop-at-preserved-in-Ok-Polygon
loop-at-preserved-in-Ok-Polygon c = passed_polygon _ _ _ _ _ _ c.loop-at.invariant c.in-Ok-Polygon.p (sym c.record_at.ensures ∙ c.in-Ok-Polygon.is ∙ ap Ok c.in-Ok-Polygon.field-0-is)

pub loop-at-smaller-in-Ok-Polygon : goal.loop-at-smaller-in-Ok-Polygon
loop-at-smaller-in-Ok-Polygon c = let m = moves _ _ _ _ (sym c.record_at.ensures ∙ c.in-Ok-Polygon.is ∙ ap Ok c.in-Ok-Polygon.field-0-is) in omega arith

pub loop-at-preserved-in-Ok-Portal : goal.loop-at-preserved-in-Ok-Portal
loop-at-preserved-in-Ok-Portal c = passed_portal _ _ _ _ _ _ c.loop-at.invariant (sym c.record_at.ensures ∙ c.in-Ok-Portal.is ∙ ap Ok c.in-Ok-Portal.field-0-is)

pub loop-at-smaller-in-Ok-Portal : goal.loop-at-smaller-in-Ok-Portal
loop-at-smaller-in-Ok-Portal c = let h = loop-at-preserved-in-Ok-Portal c in omega arith

pub loop-at-preserved : goal.loop-at-preserved
loop-at-preserved c = passed_point _ _ _ _ _ _ c.loop-at.invariant (sym c.record_at.ensures ∙ c.in-Ok-Point.is ∙ ap Ok c.in-Ok-Point.field-0-is)

pub loop-at-smaller : goal.loop-at-smaller
loop-at-smaller c = let h = loop-at-preserved c in omega arith

pub returns-in-Ok-End : goal.returns-in-Ok-End
returns-in-Ok-End c = sym (passed_end _ _ _ _ _ _ c.loop-at.invariant (sym c.record_at.ensures ∙ c.in-Ok-End.is ∙ ap Ok c.in-Ok-End.field-0-is))

pub returns-in-Err : goal.returns-in-Err
returns-in-Err c = sym (passed_bad _ _ _ _ _ _ c.loop-at.invariant _ (sym c.record_at.ensures ∙ c.in-Err.is))
