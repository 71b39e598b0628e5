-- `obj_replay::drawing_agrees` meets its contract: what its callees say of the number, the first word and the text.
use Rattle.obj_replay.proofs.Drawings.{agreed}
use Rattle.obj_replay.proofs.drawing_agrees.Goals as goal

pub returns : goal.returns
returns c =
    let made = c.draw_record-number in
    let told = c.lent_agrees.ensures in
    λ h. agreed _ _ _ _ _ c.untouched-text.ensures made.auto.text made.ensures.number (told.number h) _ made.ensures.words (told.first h) made.ensures.text (told.bytes h)
