-- `resource::locate` meets its contract: the masks test the bits of `located`.
use native.Mathlib.Omega.{arith}
use lib.Bits.{and_le_l}
use Rattle.resource.specs.Places.{located}
use Rattle.resource.proofs.Masks.{graphics, not_graphics, system, not_system}
use Rattle.resource.proofs.locate.Goals as goal

pub overflow_sub-result : goal.overflow_sub-result
overflow_sub-result c = omega (arith, and_le_l c.args.va 0x60000000)

pub returns-then-va-eq-GRAPHICS_BASE : goal.returns-then-va-eq-GRAPHICS_BASE
unfolding located
returns-then-va-eq-GRAPHICS_BASE c = rw (graphics c.args.va c.if-va-eq-GRAPHICS_BASE.true)

pub overflow_sub-result-then-va-eq-SYSTEM_BASE : goal.overflow_sub-result-then-va-eq-SYSTEM_BASE
overflow_sub-result-then-va-eq-SYSTEM_BASE c = omega (arith, and_le_l c.args.va 0x50000000)

pub returns-then-va-eq-SYSTEM_BASE : goal.returns-then-va-eq-SYSTEM_BASE
unfolding located
returns-then-va-eq-SYSTEM_BASE c = rw (not_graphics c.args.va c.if-va-eq-GRAPHICS_BASE.false, system c.args.va c.if-va-eq-SYSTEM_BASE.true)

pub returns : goal.returns
unfolding located
returns c = rw (not_graphics c.args.va c.if-va-eq-GRAPHICS_BASE.false, not_system c.args.va c.if-va-eq-SYSTEM_BASE.false)
