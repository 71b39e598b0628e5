-- `seams::seams_entry` meets its contract: the words of what the count answers, stored or refused.
use mathlib.Core.Path.{sym, ap, ◌∙◌}
use Rattle.strip.specs.Outcome.{paper}
use Rattle.seams.specs.Entries.{seam_words}
use Rattle.answers.proofs.Answers.{answers}
use Rattle.seams.proofs.seams_entry.Goals as goal

pub returns-in-Ok : goal.returns-in-Ok
returns-in-Ok c = let w = answers seam_words (sym (ap paper c.in-Ok.is) ∙ c.count_seams.ensures) c.args.answer.now c.accept.ensures.number c.accept.ensures.words in record { number = w.0; words = w.1 }

pub returns-in-Err : goal.returns-in-Err
returns-in-Err c = let w = answers seam_words (sym (ap paper c.in-Err.is) ∙ c.count_seams.ensures) c.args.answer.now (c.refuse.ensures.number ∙ c.from.ensures) c.refuse.ensures.words in record { number = w.0; words = w.1 }
