-- `answers::accept` meets its contract: the words are stored one by one, and each is the value of its number.
use mathlib.Core.Path.{refl}
use Rattle.answers.specs.Words.{filled}
use Rattle.answers.proofs.Stores.{stored_first}
use Rattle.answers.proofs.accept.Goals as goal

pub returns : goal.returns
returns c =
    let a = c.args in
    record {
      number = refl;
      words = rw (c.value_at.ensures, c.value_at-2.ensures, c.value_at-3.ensures, c.value_at-4.ensures, c.value_at-5.ensures, c.value_at-6.ensures, c.value_at-7.ensures, c.value_at-8.ensures) (stored_first (filled a.values.now) a.answer.now);
    }
