-- `pick_entry::spot_entry` meets its contract: the words of what the call answers, stored or refused.
use mathlib.Core.Path.{sym, ap, ◌∙◌}
use Rattle.strip.specs.Outcome.{paper}
use Rattle.answers.proofs.Answers.{answers}
use Rattle.pick_entry.specs.Entries.{spot_words}
use Rattle.pick_entry.proofs.spot_entry.Goals as goal

pub returns-in-Ok : goal.returns-in-Ok
returns-in-Ok c = let w = answers spot_words (sym (ap paper c.in-Ok.is) ∙ c.spot_for_position.ensures) c.args.answer.now c.accept.ensures.number c.accept.ensures.words in record { number = w.0; words = w.1 }

pub returns-in-Err : goal.returns-in-Err
returns-in-Err c = let w = answers spot_words (sym (ap paper c.in-Err.is) ∙ c.spot_for_position.ensures) c.args.answer.now (c.refuse.ensures.number ∙ c.from.ensures) c.refuse.ensures.words in record { number = w.0; words = w.1 }
