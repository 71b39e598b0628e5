-- `reach_walk::leave` meets its contract: the polygon is visited, and its portals are a row of steps behind that.
use Rattle.reach_walk.proofs.Work.{left_more, left_visited, left_none, no_mark}
use Rattle.reach_walk.proofs.leave.Goals as goal
use Rattle.reach_walk.proofs.leave.Goals.{else-i-marks-via-then-i-marks+else-marks-i-eq2, else-i-marks-via-else-i-marks}

pub visit-requires : goal.visit-requires
visit-requires c = (c.requires.table, c.if-i-marks.true)

pub follow-requires : goal.follow-requires
follow-requires c = c.requires.inside

pub returns-then-marks-i-eq2 : goal.returns-then-marks-i-eq2
returns-then-marks-i-eq2 c = left_more _ _ (left_visited _ _ c.if-i-marks.true c.visit.ensures) c.follow.ensures

pub returns-else-i-marks : goal.returns-else-i-marks
returns-else-i-marks c =
    elim c.else-i-marks.branch [
      | else-i-marks-via-then-i-marks+else-marks-i-eq2 w ↦ left_none _ _ w.if-marks-i-eq2.false
      | else-i-marks-via-else-i-marks w ↦ left_none _ _ (no_mark _ _ w.if-i-marks.false)
    ]
