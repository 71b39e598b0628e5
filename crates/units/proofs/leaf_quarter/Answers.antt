-- `units::leaf_quarter` meets its contract: the test chooses the way to round; `float_of_bits` gives the float, `quarter_floor` or `quarter_ceil` its side, and `bits16_of` the bits of that side.
use mathlib.Core.Path.{◌≡◌, ap, ◌∙◌}
use mir.Syntax.{w16}
use mir.Val.{to_z, of_z}
use borrow.Author.Tests.{eq-eqb, ne_eqb}
use Rattle.quarters.specs.Quarter.{bits16}
use borrow.Author.Rules.{rules}
use Rattle.units.proofs.leaf_quarter.Goals as goal

pub returns-then-ceil-eq0 : goal.returns-then-ceil-eq0
returns-then-ceil-eq0 c =
    let q = c.quarter_floor in
    let read : to_z w16 (of_z w16 q.result) ≡ q.result = search rules in
    rw (eq-eqb _ 0 c.if-ceil-eq0.true, ← c.float_of_bits.ensures) (c.bits16_of.ensures.bits ∙ ap bits16 (read ∙ q.ensures))

pub returns : goal.returns
returns c =
    let q = c.quarter_ceil in
    let read : to_z w16 (of_z w16 q.result) ≡ q.result = search rules in
    rw (ne_eqb _ 0 c.if-ceil-eq0.false, ← c.float_of_bits-2.ensures) (c.bits16_of-2.ensures.bits ∙ ap bits16 (read ∙ q.ensures))
