-- `pick_entry::pick_entry` meets its contract: the words of what the call answers, stored or refused.
use mathlib.Core.Path.{sym, ap, ◌∙◌}
use Rattle.answers.proofs.Answers.{answers}
use Rattle.strip.specs.Outcome.{paper}
use Rattle.pick_entry.specs.Entries.{found_words}
use Rattle.pick_entry.proofs.pick_entry.Goals as goal

pub returns-in-Ok-Some : goal.returns-in-Ok-Some
returns-in-Ok-Some c = let w = answers found_words (rw c.in-Ok-Some.field-0-is at c.in-Ok-Some.ensures) c.args.answer.now c.accept.ensures.number c.accept.ensures.words in record { number = w.0; words = w.1 }

pub returns-in-Ok-None : goal.returns-in-Ok-None
returns-in-Ok-None c = let w = answers found_words (rw c.in-Ok-None.field-0-is at c.in-Ok-None.ensures) c.args.answer.now c.accept-in-Ok-None.ensures.number c.accept-in-Ok-None.ensures.words in record { number = w.0; words = w.1 }

pub returns-in-Err : goal.returns-in-Err
returns-in-Err c = let w = answers found_words (sym (ap paper c.in-Err.is) ∙ c.pick_poly.ensures) c.args.answer.now (c.refuse.ensures.number ∙ c.from.ensures) c.refuse.ensures.words in record { number = w.0; words = w.1 }
