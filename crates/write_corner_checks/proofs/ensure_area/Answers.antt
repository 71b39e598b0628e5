-- `write_corner_checks::ensure_area` meets its contract: what the area table answers is a law of `Answers`.
use Rattle.write_corner_checks.proofs.Answers.{area_no, area_in}
use Rattle.write_corner_checks.proofs.ensure_area.Goals as goal

pub returns-in-Some : goal.returns-in-Some
returns-in-Some c = area_in _ c.requires _ _ _ _ c.ensure_id-entry.ensures.answer c.ensure_id-entry.ensures.table _ c.in-Some.is

pub returns-in-None : goal.returns-in-None
returns-in-None c = area_no _ c.requires _ _ _ _ c.ensure_id-entry.ensures.answer c.ensure_id-entry.ensures.table c.in-None.is
