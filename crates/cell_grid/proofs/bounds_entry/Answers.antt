-- `cell_grid::bounds_entry` meets its contract: the words of what the call answers, a side by its bits, stored or refused.
use Rattle.strip.specs.Outcome.{paper}
use Rattle.std.proofs.Common.{sym, ap, ◌∙◌}
use Rattle.cell_grid.specs.Entries.{bounds_words}
use Rattle.answers.proofs.Answers.{answers}
use Rattle.cell_grid.proofs.bounds_entry.Goals as goal

pub returns-in-Ok : goal.returns-in-Ok
returns-in-Ok c =
    let w = answers bounds_words (sym (ap paper c.in-Ok.is) ∙ c.cell_bounds.ensures) c.args.answer.now c.accept.ensures.number
    (rw (c.bits_of_float.ensures, c.bits_of_float-in-Ok.ensures, c.bits_of_float-in-Ok-2.ensures, c.bits_of_float-in-Ok-3.ensures) at c.accept.ensures.words) in record { number = w.0; words = w.1 }

pub returns-in-Err : goal.returns-in-Err
returns-in-Err c = let w = answers bounds_words (sym (ap paper c.in-Err.is) ∙ c.cell_bounds.ensures) c.args.answer.now (c.refuse.ensures.number ∙ c.from.ensures) c.refuse.ensures.words in record { number = w.0; words = w.1 }
