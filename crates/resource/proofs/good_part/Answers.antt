-- `resource::good_part` meets its contract: what `good` says of the address is what `resolve` would have tested.
use native.Mathlib.Omega.{arith}
use mathlib.Core.Path.{sym}
use lib.Bits.{and_le_l}
use Rattle.resource.specs.Places.{resolved_at}
use Rattle.resource.proofs.Masks.{graphics, not_graphics}
use Rattle.resource.proofs.Good.{graphics_part, system_part}
use Rattle.resource.proofs.good_part.Goals as goal

pub overflow_sub-from : goal.overflow_sub-from
overflow_sub-from c = omega (arith, and_le_l c.args.va 0x60000000, c.if-va-eq-GRAPHICS_BASE.true)

pub overflow_add-to : goal.overflow_add-to
overflow_add-to c = omega (arith, (graphics_part _ _ _ _ c.requires (graphics c.args.va c.if-va-eq-GRAPHICS_BASE.true)).0)

pub slice_bounds-result-end : goal.slice_bounds-result-end
slice_bounds-result-end c = (graphics_part _ _ _ _ c.requires (graphics c.args.va c.if-va-eq-GRAPHICS_BASE.true)).0

pub returns-then-va-eq-GRAPHICS_BASE : goal.returns-then-va-eq-GRAPHICS_BASE
unfolding resolved_at
returns-then-va-eq-GRAPHICS_BASE c =
    let named = graphics c.args.va c.if-va-eq-GRAPHICS_BASE.true in
    record {
      content = sym (graphics_part _ _ _ _ c.requires named).1;
      place = rw named;
    }

pub overflow_sub-from-2 : goal.overflow_sub-from-2
overflow_sub-from-2 c = (system_part _ _ _ _ c.requires (not_graphics c.args.va c.if-va-eq-GRAPHICS_BASE.false)).0

pub overflow_add-to-2 : goal.overflow_add-to-2
overflow_add-to-2 c = omega (arith, (system_part _ _ _ _ c.requires (not_graphics c.args.va c.if-va-eq-GRAPHICS_BASE.false)).1)

pub slice_bounds-result-end-2 : goal.slice_bounds-result-end-2
slice_bounds-result-end-2 c = (system_part _ _ _ _ c.requires (not_graphics c.args.va c.if-va-eq-GRAPHICS_BASE.false)).1

pub returns : goal.returns
unfolding resolved_at
returns c =
    let other = not_graphics c.args.va c.if-va-eq-GRAPHICS_BASE.false in
    record {
      content = sym (system_part _ _ _ _ c.requires other).2;
      place = rw other;
    }
