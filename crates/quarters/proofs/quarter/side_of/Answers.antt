-- `quarters::quarter::side_of` meets its contract, by `side_negative` and `side_positive` of `proofs/Quarters.antt`. Assumes nothing.
use Rattle.std.proofs.Common.{ℕ, pos, neg_ℤ, ap, ◌∙◌}
use lib.Ieee.{of_bits}
use Rattle.quarters.specs.Quarter.{saturated}
use Rattle.quarters.proofs.Quarters.{side_read, side_negative, side_positive}
use Rattle.quarters.proofs.quarter.side_of.Goals as goal

pub returns-then-x : goal.returns-then-x
unfolding of_bits
returns-then-x c =
    side_read c.args.ceil c.args.x c.negative.result
    (c.negative.ensures ∙ ap (λ (n : ℕ). saturated (neg_ℤ (pos n))) c.quarters_of.ensures
    ∙ side_negative c.args.ceil c.args.x c.if-x.true)

pub returns-else-x : goal.returns-else-x
unfolding of_bits
returns-else-x c =
    side_read c.args.ceil c.args.x c.positive.result
    (c.positive.ensures ∙ ap (λ (n : ℕ). saturated (pos n)) c.quarters_of-else-x.ensures
    ∙ side_positive c.args.ceil c.args.x c.if-x.false)
