-- `write_leaf_counts::axis_meets` meets its contract: the four sides, as the machine reads them, stand in the definition's two tests (`axis_yes`, `axis_no`).
use Prim.Native.Nat.{◌/◌, ◌%◌}
use mathlib.Core.Path.{◌≡◌, sym, ap, ◌∙◌}
use native.Mathlib.Omega.{arith}
use mir.Syntax.{w16}
use mir.Val.{to_z, of_z}
use mir.ValLaws.{to_z-of_z}
use Rattle.quarters.specs.Int16.{int16}
use Rattle.write_leaf_counts.proofs.Picks.{int_read, axis_yes, axis_no}
use Rattle.write_leaf_counts.proofs.axis_meets.Goals as goal
use Rattle.write_leaf_counts.proofs.axis_meets.Goals.{After-i16_of-max}

-- what the machine reads of the four sides
least : (c : After-i16_of-max) → to_z w16 (of_z w16 c.i16_of-min.result) ≡ int16 (c.args.sides % 65536)
least c = int_read (c.args.sides % 65536) _ (omega arith) c.i16_of-min.ensures

most : (c : After-i16_of-max) → to_z w16 (of_z w16 c.i16_of-max.result) ≡ int16 (c.args.sides / 65536)
most c =
    let e : c.args.sides / 65536 % 65536 ≡ c.args.sides / 65536 = omega (arith, c.ranges.sides) in
    int_read (c.args.sides / 65536 % 65536) _ (omega arith) c.i16_of-max.ensures ∙ ap int16 e

pub returns-then-leaf_min-max : goal.returns-then-leaf_min-max
returns-then-leaf_min-max c =
    let low = to_z-of_z w16 c.args.leaf_min c.ranges.leaf_min in
    let high = to_z-of_z w16 c.args.leaf_max c.ranges.leaf_max in
    rw (high, least (goal.at.returns-then-leaf_min-max c).After-i16_of-max) (sym (axis_yes _ _ _ _ (rw (low, most (goal.at.returns-then-leaf_min-max c).After-i16_of-max) at c.if-leaf_min-max.true)))

pub returns-else-leaf_min-max : goal.returns-else-leaf_min-max
returns-else-leaf_min-max c =
    let low = to_z-of_z w16 c.args.leaf_min c.ranges.leaf_min in
    c.if-leaf_min-max.false ∙ sym (axis_no _ _ _ _ (rw (low, most (goal.at.returns-else-leaf_min-max c).After-i16_of-max) at c.if-leaf_min-max.false))
