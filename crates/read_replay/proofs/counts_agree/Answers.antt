-- `read_replay::counts_agree` meets its contract: counts that are equal to five that `u32_le` reads are those.
use mathlib.Core.Path.{sym, ◌∙◌}
use Rattle.read_replay.proofs.Records.{same_counts}
use Rattle.read_replay.proofs.counts_agree.Goals as goal

pub returns : goal.returns
returns c = λ h. same_counts _ _ _ _ _ _ (sym c.eq.ensures ∙ h) ∙ rw (c.u32_le.ensures, c.u32_le-2.ensures, c.u32_le-3.ensures, c.u32_le-4.ensures, c.u32_le-5.ensures)
