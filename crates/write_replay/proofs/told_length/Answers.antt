-- `write_replay::told_length` meets its contract: `u32_le` gives the number, which is 0 where the record tells a length, and then the length itself.
use mathlib.Core.Path.{sym, ◌∙◌}
use Rattle.write_replay.proofs.Records.{told_some, told_none}
use Rattle.write_replay.proofs.told_length.Goals as goal

pub returns-then-u32_le-eq0 : goal.returns-then-u32_le-eq0
returns-then-u32_le-eq0 c = told_some _ _ _ (sym c.u32_le.ensures ∙ c.if-u32_le-eq0.true) c.u32_le-then-u32_le-eq0.ensures

pub returns : goal.returns
returns c = told_none _ _ (λ z. c.if-u32_le-eq0.false (c.u32_le.ensures ∙ z))
