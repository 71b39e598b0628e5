-- `obj_entry::obj_entry` meets its contract: the words of what the call answers, stored or refused.
use mathlib.Core.Path.{sym, ap, ◌∙◌}
use Rattle.strip.specs.Outcome.{paper}
use Rattle.answers.proofs.Answers.{answers}
use Rattle.obj_entry.specs.Entries.{obj_words}
use Rattle.obj_entry.proofs.obj_entry.Goals as goal

pub returns-in-Ok : goal.returns-in-Ok
returns-in-Ok c =
    let said = sym (ap paper c.in-Ok.is) ∙ c.export_obj.ensures.answer in
    let a = answers obj_words said c.args.answer.now c.accept.ensures.number c.accept.ensures.words in
    record {
      number = a.0;
      words = a.1;
      text = c.export_obj.ensures.text;
    }

pub returns-in-Err : goal.returns-in-Err
returns-in-Err c =
    let said = sym (ap paper c.in-Err.is) ∙ c.export_obj.ensures.answer in
    let a = answers obj_words said c.args.answer.now (c.refuse.ensures.number ∙ c.from.ensures) c.refuse.ensures.words in
    record {
      number = a.0;
      words = a.1;
      text = c.export_obj.ensures.text;
    }
