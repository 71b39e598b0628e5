-- `reach_replay::walk_agrees` meets its contract: what its callees say of the number, the first word and the marks.
use Rattle.reach_replay.proofs.Walks.{agreed}
use Rattle.reach_replay.proofs.walk_agrees.Goals as goal

pub returns : goal.returns
returns c =
    let made = c.walk_record-number in
    let told = c.lent_agrees.ensures in
    λ h. agreed _ _ _ _ _ c.untouched-marks.ensures made.auto.marks made.ensures.number (told.number h) _ made.ensures.words (told.first h) made.ensures.marks (told.bytes h)
