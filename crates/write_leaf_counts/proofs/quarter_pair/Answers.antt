-- `write_leaf_counts::quarter_pair` meets its contract: the sum of what the callee says of each side, by arithmetic.
use mathlib.Core.Path.{ap, ◌∙◌}
use native.Mathlib.Omega.{arith}
use mir.Syntax.{w16}
use mir.ValLaws.{to_z-of_z}
use Rattle.quarters.specs.Quarter.{bits16}
use Rattle.write_leaf_counts.proofs.quarter_pair.Goals as goal

pub returns : goal.returns
returns c =
    let a = c.bits16_of.ensures.bits ∙ ap bits16 (to_z-of_z w16 c.args.min c.ranges.min) in
    let b = c.bits16_of-2.ensures.bits ∙ ap bits16 (to_z-of_z w16 c.args.max c.ranges.max) in
    record {
      word = omega (arith, a, b);
      bound = omega (arith, a, c.bits16_of.ensures.bound);
    }
