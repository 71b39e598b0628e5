-- `read_entry::parse_entry` meets its contract: the words of what the reader answers, stored or refused.
use mathlib.Core.Path.{sym, ap, ◌∙◌}
use Rattle.strip.specs.Outcome.{paper}
use Rattle.read_entry.specs.Entries.{parsed_words}
use Rattle.answers.proofs.Answers.{answers}
use Rattle.read_entry.proofs.parse_entry.Goals as goal

pub returns-in-Ok : goal.returns-in-Ok
returns-in-Ok c =
    let call = c.parse_ynv in
    let told = sym (ap paper c.in-Ok.is) ∙ call.ensures.answer in
    let a = answers parsed_words told c.args.answer.now c.accept.ensures.number c.accept.ensures.words in
    record {
      number = a.0;
      words = a.1;
      strip = call.ensures.strip;
    }

pub returns-in-Err : goal.returns-in-Err
returns-in-Err c =
    let call = c.parse_ynv in
    let told = sym (ap paper c.in-Err.is) ∙ call.ensures.answer in
    let a = answers parsed_words told c.args.answer.now (c.refuse.ensures.number ∙ c.from.ensures) c.refuse.ensures.words in
    record {
      number = a.0;
      words = a.1;
      strip = call.ensures.strip;
    }
