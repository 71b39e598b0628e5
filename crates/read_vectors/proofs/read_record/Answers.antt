-- `read_vectors::read_record` meets its contract: `u32_le` and `min` give how much of the strip is lent, and `parse_ynv` decides on the two sections and that part; what is not lent stays.
use Prim.Native.Nat.{ℕ, min}
use mathlib.Core.Path.{ap, ◌∙◌}
use lib.ListN.{length}
use Rattle.read_vectors.proofs.Records.{strip_left}
use Rattle.read_vectors.proofs.read_record.Goals as goal

pub returns-clause-strip : goal.returns-clause-strip
returns-clause-strip c =
    let e = c.min-lent.ensures ∙ ap (λ (w : ℕ). min w (length c.args.strip.now)) c.u32_le.ensures in
    strip_left _ _ c.args.r _ _ e _ c.parse_ynv.ensures.strip
