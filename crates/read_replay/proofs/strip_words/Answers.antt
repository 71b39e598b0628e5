-- `read_replay::strip_words` meets its contract: `u32_le` gives the number, which is 0 where the record tells words, and then how many; four bytes are below 2^32.
use mathlib.Core.Path.{sym, ◌∙◌}
use Rattle.read_replay.proofs.Records.{told_words_lem, no_words}
use borrow.Author.Rules.{rules}
use Rattle.read_replay.proofs.strip_words.Goals as goal

pub returns-then-u32_le-eq0 : goal.returns-then-u32_le-eq0
returns-then-u32_le-eq0 c =
    record {
      count = told_words_lem _ _ _ (sym c.u32_le.ensures ∙ c.if-u32_le-eq0.true) c.u32_le-then-u32_le-eq0.ensures;
      bound = search rules;
    }

pub returns-else-u32_le-eq0 : goal.returns-else-u32_le-eq0
returns-else-u32_le-eq0 c =
    record {
      count = no_words _ _ (λ z. c.if-u32_le-eq0.false (c.u32_le.ensures ∙ z));
      bound = search rules;
    }
